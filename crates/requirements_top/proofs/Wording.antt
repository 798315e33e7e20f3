-- What words say, as `clap` matches them.
use Rattle.std.proofs.Common.{◌≡◌, ◌≤◌, ◌∙◌, ℕ, Bool, true, false, not, ◌&&◌, is_some, inl, inr, List, [], codes, Option, Some, None, MatchOption, refl}
use Rattle.std.proofs.Common.{sym, ap, subst, arith}
use Rattle.clap.specs.Walk.{rows_of, first_of}
use Rattle.clap.specs.Simple.{is_simple, matches_of}
use Rattle.clap.specs.Faults.{is_simple_and_free}
use Rattle.clap.specs.Kinds.{Kinds, HasKind, IsAmong}
use Rattle.clap.specs.Values.{kind_of}
use Rattle.clap.specs.declared.error.Error.{Error}
use Rattle.clap.specs.declared.error.kind.ErrorKind.TheVariants as kinds
use Rattle.clap.specs.Matches.{found_of, first_value}
use Rattle.clap.specs.declared.parser.matches.ArgMatches.{ArgMatches}
use Rattle.clap.proofs.WalkLemmas.{first_value-rows}
use Rattle.requirements_top.specs.Words.{words_app, text_in, Said, said_in, AreTaken, Asks, AskNothing, Face, IsFace, IsBare, AreSteps, AreWorkers, AsksFor}
use Rattle.requirements_top.specs.Words.{Wanted, Help, Letters, About, Certificate, Of, Work, Says}
use Rattle.requirements_top.specs.declared.words.Asked.{Asked}
use Rattle.requirements_top.specs.declared.words.Query.{Query as CodeQuery}
use Rattle.requirements_top.specs.declared.words.Query.TheVariants as queries
use Rattle.requirements_top.specs.Said.{is_bare, is_formless, is_workless, IsFit, query_of, wanted_of, said_in_matches}

pub words_simple : is_simple words_app ≡ true
unfolding words_app
words_simple = refl

pub words_free : is_simple_and_free words_app ≡ true
unfolding words_app
words_free = refl

-- an error that is no want of memory comes of a fault
pub faulty : (ks : Kinds) (e : Error) → HasKind ks e → ¬ (kind_of e ≡ kinds.OutOfMemory) → ¬ (ks ≡ [])
faulty ks e (inl memory) other = λ none. other memory
faulty ks e (inr among) other = λ none. subst (IsAmong (kind_of e)) none among

-- the text of an option
pub text_matched : (words : List (List ℕ)) (m : ArgMatches) (id : List ℕ) → rows_of (found_of m) ≡ matches_of words_app words
    → first_value (found_of m) id ≡ text_in words id
text_matched words m id rows = first_value-rows (found_of m) id ∙ ap (first_of id) rows

-- ---- what is asked for

formless_so : (json html : Bool) (only : Option (List ℕ)) → (not json && (not html && not (is_some only))) ≡ true
    → (json ≡ false) × (html ≡ false) × (only ≡ None)
formless_so false false None is = (refl, refl, refl)
formless_so false false (Some t) is = absurd (cc)
formless_so false true only is = absurd (cc)
formless_so true html only is = absurd (cc)

workless_so : (progress : Bool) (steps workers : Option (List ℕ)) → (not progress && (not (is_some steps) && not (is_some workers))) ≡ true
    → (progress ≡ false) × (steps ≡ None) × (workers ≡ None)
workless_so false None None is = (refl, refl, refl)
workless_so false None (Some t) is = absurd (cc)
workless_so false (Some t) workers is = absurd (cc)
workless_so true steps workers is = absurd (cc)

nothing_so : (t : Option (List ℕ)) → not (is_some t) ≡ true → t ≡ None
nothing_so None is = refl
nothing_so (Some t) is = absurd (cc)

both_so : (a b c : Bool) → (a && (b && c)) ≡ true → (a ≡ true) × (b ≡ true) × (c ≡ true)
both_so true true true is = (refl, refl, refl)
both_so true true false is = absurd (cc)
both_so true false c is = absurd (cc)
both_so false b c is = absurd (cc)

bare : (s : Said) → is_bare s ≡ true → IsBare s
bare s is =
    let (form, work, cert) = both_so (is_formless s) (is_workless s) (not (is_some s.cert)) is in
    let (json, html, only) = formless_so s.json s.html s.only form in
    let (progress, steps, workers) = workless_so s.progress s.steps s.workers work in
    record {
      json = json;
      html = html;
      progress = progress;
      only = only;
      cert = nothing_so s.cert cert;
      steps = steps;
      workers = workers;
    }

bare_so : (s : Said) → IsBare s → is_bare s ≡ true
bare_so s is = rw (is.json, is.html, is.progress, is.only, is.cert, is.steps, is.workers) refl

pub help_alone : (s : Said) → s.help ≡ true → s.letters ≡ false → is_bare s ≡ true → Says s Help
help_alone s help letters is = (help, letters, bare s is)

pub letters_alone : (s : Said) → s.help ≡ false → s.letters ≡ true → is_bare s ≡ true → Says s (Of Letters)
letters_alone s help letters is = (help, letters, bare s is)

-- where something stands beside `--help` or `--letters`, nothing is asked for
pub not_both : (s : Said) → s.help ≡ true → s.letters ≡ true → (wanted : Wanted) → ¬ (Says s wanted)
not_both s help letters Help = λ says. let e = says.1 in cc
not_both s help letters (Of Letters) = λ says. let e = says.0 in cc
not_both s help letters (Of (About request)) = λ says. let e = says.0 in cc
not_both s help letters (Of (Certificate name work)) = λ says. let e = says.0 in cc

pub not_help : (s : Said) → s.help ≡ true → is_bare s ≡ false → (wanted : Wanted) → ¬ (Says s wanted)
not_help s help stands Help = λ says. let e = bare_so s says.2 in cc
not_help s help stands (Of Letters) = λ says. let e = says.0 in cc
not_help s help stands (Of (About request)) = λ says. let e = says.0 in cc
not_help s help stands (Of (Certificate name work)) = λ says. let e = says.0 in cc

pub not_letters : (s : Said) → s.help ≡ false → s.letters ≡ true → is_bare s ≡ false → (wanted : Wanted) → ¬ (Says s wanted)
not_letters s help letters stands Help = λ says. let e = says.0 in cc
not_letters s help letters stands (Of Letters) = λ says. let e = bare_so s says.2 in cc
not_letters s help letters stands (Of (About request)) = λ says. let e = says.1 in cc
not_letters s help letters stands (Of (Certificate name work)) = λ says. let e = says.1 in cc

-- ---- how the questions are answered

pub no_steps : (s : Said) → ((n : ℕ) → ¬ (AreSteps s.steps n)) → (work : Work) → ¬ (AsksFor s work)
no_steps s none work = λ asks. none work.steps asks.steps

pub no_workers : (s : Said) → ((n : ℕ) → ¬ (AreWorkers s.workers n)) → (work : Work) → ¬ (AsksFor s work)
no_workers s none work = λ asks. none work.workers asks.workers

few_workers : (said : Option (List ℕ)) (n : ℕ) → AreWorkers said n → (1 ≤ n) × (n ≤ 16)
few_workers None n are = (omega (arith, are), omega (arith, are))
few_workers (Some digits) n are = (are.from, are.to)

-- words ask for a number of workers that is allowed
pub fit_asked : (words : List (List ℕ)) (query : CodeQuery) → Asks words (Of (query_of query)) → IsFit query
fit_asked words queries.Letters asks = tt
fit_asked words (queries.About request) asks =
    let few = few_workers (said_in words).workers request.work.effort.workers asks.1.2.work.workers in
    record { some = few.0; few = few.1 }
fit_asked words (queries.Certificate name work) asks =
    let few = few_workers (said_in words).workers work.effort.workers asks.1.2.so.workers in
    record { some = few.0; few = few.1 }

-- ---- reports and certificates

-- a report is asked for in one form, where its questions are answered in some way
pub no_face : (s : Said) → s.help ≡ false → s.letters ≡ false → s.cert ≡ None → ((face : Face) → ¬ (IsFace s.json s.html face)) → (wanted : Wanted)
    → ¬ (Says s wanted)
no_face s help letters cert none Help = λ says. let e = says.0 in cc
no_face s help letters cert none (Of Letters) = λ says. let e = says.1 in cc
no_face s help letters cert none (Of (About request)) = λ says. none request.face says.2.face
no_face s help letters cert none (Of (Certificate name work)) = λ says. let e = says.2.cert in cc

pub no_report : (s : Said) → s.help ≡ false → s.letters ≡ false → s.cert ≡ None → ((work : Work) → ¬ (AsksFor s work)) → (wanted : Wanted) → ¬ (Says s wanted)
no_report s help letters cert none Help = λ says. let e = says.0 in cc
no_report s help letters cert none (Of Letters) = λ says. let e = says.1 in cc
no_report s help letters cert none (Of (About request)) = λ says. none request.work says.2.work
no_report s help letters cert none (Of (Certificate name work)) = λ says. let e = says.2.cert in cc

-- a certificate is asked for without a form, and about no other name
pub not_formless : (s : Said) (name : List ℕ) → s.help ≡ false → s.letters ≡ false → s.cert ≡ Some name → is_formless s ≡ false → (wanted : Wanted)
    → ¬ (Says s wanted)
not_formless s name help letters cert stands Help = λ says. let e = says.0 in cc
not_formless s name help letters cert stands (Of Letters) = λ says. let e = says.1 in cc
not_formless s name help letters cert stands (Of (About request)) = λ says. let e = says.2.cert in cc
not_formless s name help letters cert stands (Of (Certificate other work)) = λ says.
    let e : is_formless s ≡ true = rw (says.2.json, says.2.html, says.2.only) refl in cc

pub no_certificate : (s : Said) (name : List ℕ) → s.help ≡ false → s.letters ≡ false → s.cert ≡ Some name → ((work : Work) → ¬ (AsksFor s work))
    → (wanted : Wanted) → ¬ (Says s wanted)
no_certificate s name help letters cert none Help = λ says. let e = says.0 in cc
no_certificate s name help letters cert none (Of Letters) = λ says. let e = says.1 in cc
no_certificate s name help letters cert none (Of (About request)) = λ says. let e = says.2.cert in cc
no_certificate s name help letters cert none (Of (Certificate other work)) = λ says. none work says.2.so

pub certified_so : (s : Said) (name : List ℕ) (work : Work) → s.help ≡ false → s.letters ≡ false → s.cert ≡ Some name → is_formless s ≡ true → AsksFor s work
    → Says s (Of (Certificate name work))
certified_so s name work help letters cert form asks =
    let (json, html, only) = formless_so s.json s.html s.only form in
    (help, letters, record { json = json; html = html; only = only; cert = cert; so = asks })

-- ---- whole lists of words

pub matched_said : (words : List (List ℕ)) (m : ArgMatches) → rows_of (found_of m) ≡ matches_of words_app words → said_in_matches (found_of m) ≡ said_in words
matched_said words m rows =
    let help = text_matched words m (codes "help") rows in
    let letters = text_matched words m (codes "letters") rows in
    let json = text_matched words m (codes "json") rows in
    let html = text_matched words m (codes "html") rows in
    let progress = text_matched words m (codes "progress") rows in
    let only = text_matched words m (codes "only") rows in
    let cert = text_matched words m (codes "cert") rows in
    let steps = text_matched words m (codes "steps") rows in
    let workers = text_matched words m (codes "workers") rows in
    rw (help, letters, json, html, progress, only, cert, steps, workers) refl

pub not_taken : (words : List (List ℕ)) → ¬ (AreTaken words) → AskNothing words
not_taken words never wanted = λ asks. never asks.0

pub asked_so : (words : List (List ℕ)) (s : Said) (r : Option Asked) → AreTaken words → s ≡ said_in words
    → MatchOption r ((wanted : Wanted) → ¬ (Says s wanted)) (λ a. Says s (wanted_of a)) → MatchOption r (AskNothing words) (λ a. Asks words (wanted_of a))
asked_so words s None taken is none = λ wanted asks. none wanted (subst (λ t. Says t wanted) (sym is) asks.1)
asked_so words s (Some a) taken is says = (taken, subst (λ t. Says t (wanted_of a)) is says)
