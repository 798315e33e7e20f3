-- What is answered to words, from what the code has.
use Rattle.std.proofs.Common.{◌≡◌, ℕ, true, false, List, Option, sym, ap, ◌∙◌, subst, refl, true≢false}
use Rattle.ltl_io.specs.Outside.{TakesWhole}
use Rattle.black_view.specs.declared.status.Status.{Status}
use Rattle.black_view.specs.declared.status.Status.TheVariants as statuses
use Rattle.black_view.specs.declared.words.Request.{Request}
use Rattle.black_view.specs.declared.words.Asked.{Asked}
use Rattle.black_view.specs.declared.words.Asked.TheVariants as asked
use Rattle.black_view.specs.Asked.{IsAsked, AskHelp, AskVersion, AskNothing}
use Rattle.ltl_word.specs.declared.trace.Trace.{Trace}
use Rattle.black_view.specs.Status.{is_answer}
use Rattle.black_view.specs.Output.{IsDrawn, drawn, too_large, IsViewed, too_long, without, refused, read, max_bytes}
use Rattle.black_view.specs.View.{IsAnswer, help_text, version_text, usage_text, help, version, usage, picture}

-- what the words ask for, by the value that was found
asks : (words : List (List ℕ)) (a b : Asked) → IsAsked words a → a ≡ b → IsAsked words b
asks words a b is e = subst (IsAsked words) e is

told : (R : Status → List ℕ → Type 0) (status status' : Status) (printed text : List ℕ) → (status ≡ status') × (printed ≡ text) → R status' text
    → R status printed
told R status status' printed text same r = subst (λ s. R s printed) (sym same.0) (subst (R status') (sym same.1) r)

pub help_as : (words : List (List ℕ)) (rest : Option (List ℕ)) (a : Asked) (status : Status) (printed : List ℕ) → IsAsked words a
    → a ≡ asked.Help → (status ≡ statuses.Good) × (printed ≡ help_text)
    → IsAnswer words rest rest status printed
help_as words rest a status printed is e same =
    let h : AskHelp words = asks words a asked.Help is e in
    told (IsAnswer words rest rest) status statuses.Good printed help_text same (help h refl)

pub version_as : (words : List (List ℕ)) (rest : Option (List ℕ)) (a : Asked) (status : Status) (printed : List ℕ) → IsAsked words a
    → a ≡ asked.Version → (status ≡ statuses.Good) × (printed ≡ version_text)
    → IsAnswer words rest rest status printed
version_as words rest a status printed is e same =
    let h : AskVersion words = asks words a asked.Version is e in
    told (IsAnswer words rest rest) status statuses.Good printed version_text same (version h refl)

pub usage_as : (words : List (List ℕ)) (rest : Option (List ℕ)) (a : Asked) (status : Status) (printed : List ℕ) → IsAsked words a
    → a ≡ asked.Nothing → (status ≡ statuses.Usage) × (printed ≡ usage_text)
    → IsAnswer words rest rest status printed
usage_as words rest a status printed is e same =
    let h : AskNothing words = asks words a asked.Nothing is e in
    told (IsAnswer words rest rest) status statuses.Usage printed usage_text same (usage h refl)

pub picture_as : (words : List (List ℕ)) (rest after : Option (List ℕ)) (a : Asked) (request : Request) (bytes : List ℕ) (status : Status) (printed : List ℕ)
    → IsAsked words a → a ≡ asked.Picture request
    → TakesWhole max_bytes bytes rest after → IsViewed request bytes status printed → IsAnswer words rest after status printed
picture_as words rest after a request bytes status printed is e taken viewed =
    picture request bytes status printed (asks words a (asked.Picture request) is e) taken viewed

-- ---- the status of an answer is not that of a fault

drawn_answers : (request : Request) (lines : List ℕ) (t : Trace) (status : Status) (printed : List ℕ) → IsDrawn request lines t status printed
    → is_answer status ≡ true
drawn_answers request lines t status printed (drawn g asked) = refl
drawn_answers request lines t status printed (too_large large) = refl

viewed_answers : (request : Request) (bytes : List ℕ) (status : Status) (printed : List ℕ) → IsViewed request bytes status printed → is_answer status ≡ true
viewed_answers request bytes status printed (too_long long) = refl
viewed_answers request bytes status printed (without few none) = refl
viewed_answers request bytes status printed (refused at fault few there known reading) = refl
viewed_answers request bytes status printed (read at t s p few there reading d) = drawn_answers request _ t status printed d

answers : (words : List (List ℕ)) (rest after : Option (List ℕ)) (status : Status) (printed : List ℕ) → IsAnswer words rest after status printed
    → is_answer status ≡ true
answers words rest after status printed (help asked same) = refl
answers words rest after status printed (version asked same) = refl
answers words rest after status printed (usage asked same) = refl
answers words rest after status printed (picture request bytes s p wanted taken viewed) = viewed_answers request bytes status printed viewed

pub not_fault : (words : List (List ℕ)) (rest after : Option (List ℕ)) (status : Status) (printed : List ℕ) → IsAnswer words rest after status printed
    → (fault : Status) → is_answer fault ≡ false → status ≡ fault → ⊥
not_fault words rest after status printed is fault none e = true≢false (sym (answers words rest after status printed is) ∙ (ap is_answer e ∙ none))
