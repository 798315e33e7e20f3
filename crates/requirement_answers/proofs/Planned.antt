-- Questions and their answers, one more at the end.
use Rattle.std.proofs.Common.{◌≡◌, ◌∙◌, ℕ, ◌+◌, ◌<◌, Bool, true, false, List, [], ◌∷◌, ◌++◌, length, take, get_or, Option, Some, None, refl, sym, ap, ap₂}
use Rattle.std.proofs.Common.{subst, arith, if◌then◌else◌}
use Rattle.std.specs.List.{All, filter, flat_map, range_with_len}
use Rattle.std.proofs.lemmas.Grind.{flat_map-append}
use Rattle.std.proofs.lemmas.List.{take_more, map_push, append-nil}
use Rattle.std.proofs.lemmas.List.Elements.{All-append, All-cons, All-nil, All-head, All-tail, All-filter}
use Rattle.std.proofs.lemmas.List.FromFn.{length-range_with_len, get_or-range_with_len}
use Rattle.ltl_syntax.specs.Formula.{Formula}
use Rattle.requirement_questions.specs.Trigger.{trigger_of}
use Rattle.requirement_document.specs.declared.document.Role.{Role}
use Rattle.requirement_document.specs.declared.document.Role.TheVariants as roles
use Rattle.requirement_document.specs.Values.{DocumentValue}
use Rattle.requirement_answers.specs.declared.asking.Asking.{Asking}
use Rattle.requirement_answers.specs.declared.asking.Asking.TheVariants as askings
use Rattle.requirement_answers.specs.declared.asking.Reply.{Reply}
use Rattle.requirement_answers.specs.declared.findings.Scope.{Scope}
use Rattle.requirement_answers.specs.Items.{formula_of, role_of, is_among}
use Rattle.requirement_answers.specs.Asking.{asks_trigger, asks_of, asks_about, covers_item, questions_of}
use Rattle.requirement_answers.specs.Answers.{IsReply}
use Rattle.requirement_answers.specs.Inner.{alone_if, IsAbout, asks_covered, AreReplies}
use Rattle.requirement_answers.proofs.Numbered.{filter_more}

-- ---- questions

alone : (f : ℕ → List Asking) (b : Bool) (k : ℕ) → flat_map f (alone_if b k) ≡ (if b then f k else [])
alone f true k = append-nil (f k)
alone f false k = refl

pub questions_more : (d : DocumentValue) (scope : Scope) (left : List ℕ) (k : ℕ)
    → flat_map (asks_about d left) (filter (covers_item scope) (range_with_len 0 (k + 1))) ≡ flat_map (asks_about d left)
    (filter (covers_item scope) (range_with_len 0 k)) ++ asks_covered d scope left k
questions_more d scope left k =
    let f = asks_about d left in
    let before = filter (covers_item scope) (range_with_len 0 k) in
    ap (flat_map f) (filter_more (covers_item scope) k)
    ∙ (flat_map-append f before (alone_if (covers_item scope k) k) ∙ ap (λ xs. flat_map f before ++ xs) (alone f (covers_item scope k) k))

-- each is about an item that is there
trigger_about : (d : DocumentValue) (n : ℕ) → n < length d.items → (o : Option Formula) → All (IsAbout d) (asks_trigger n o)
trigger_about d n lt None = All-nil (IsAbout d)
trigger_about d n lt (Some f) = All-cons (IsAbout d) (askings.Triggered n) [] lt (All-nil (IsAbout d))

by_role : (d : DocumentValue) (left : List ℕ) (n : ℕ) → n < length d.items → (role : Role) → All (IsAbout d) (asks_of d left n role)
by_role d left n lt roles.Assume = All-nil (IsAbout d)
by_role d left n lt roles.Require = required (is_among left n) where
  both : All (IsAbout d) (asks_trigger n (trigger_of (formula_of d n)) ++ askings.New n ∷ [])
  both = All-append (IsAbout d) (asks_trigger n (trigger_of (formula_of d n))) (askings.New n ∷ []) (trigger_about d n lt (trigger_of (formula_of d n)))
      (All-cons (IsAbout d) (askings.New n) [] lt (All-nil (IsAbout d)))

  required : (b : Bool) → All (IsAbout d) (if b then asks_trigger n (trigger_of (formula_of d n)) ++ askings.New n ∷ [] else [])
  required true = both
  required false = All-nil (IsAbout d)
by_role d left n lt roles.Allow = All-cons (IsAbout d) (askings.Possible n) [] lt (All-nil (IsAbout d))
by_role d left n lt roles.Ensure = All-cons (IsAbout d) (askings.Follows n) [] lt (All-nil (IsAbout d))

all_about : (d : DocumentValue) (left numbers : List ℕ) → All (λ n. n < length d.items) numbers → All (IsAbout d) (flat_map (asks_about d left) numbers)
all_about d left [] all = All-nil (IsAbout d)
all_about d left (n ∷ ns) all =
    All-append (IsAbout d) (asks_about d left n) (flat_map (asks_about d left) ns)
    (by_role d left n (All-head (λ m. m < length d.items) n ns all) (role_of d n)) (all_about d left ns (All-tail (λ m. m < length d.items) n ns all))

pub all_below : (p : ℕ → Bool) (many : ℕ) → All (λ n. n < many) (filter p (range_with_len 0 many))
all_below p many =
    All-filter p (λ n. n < many) (range_with_len 0 many)
    (λ k e lt. omega (arith, lt, length-range_with_len 0 many, get_or-range_with_len 0 many k e (omega (arith, lt, length-range_with_len 0 many))))

pub questions_about : (d : DocumentValue) (scope : Scope) (left : List ℕ) → All (IsAbout d) (questions_of d scope left)
questions_about d scope left =
    all_about d left (filter (covers_item scope) (range_with_len 0 (length d.items))) (all_below (covers_item scope) (length d.items))

-- ---- answers

pub replies_more : (d : DocumentValue) (left : List ℕ) (asks : List Asking) (k : ℕ) (e : Asking) (found new : List Reply) (r : Reply) → k < length asks
    → AreReplies d left (take k asks) found → r.asking ≡ get_or asks k e → IsReply d left r
    → new ≡ found ++ r ∷ [] → AreReplies d left (take (k + 1) asks) new
replies_more d left asks k e found new r lt w same is grown =
    let whole : AreReplies d left (take (k + 1) asks) (found ++ r ∷ []) = record {
      asked = map_push (λ p. p.asking) found r ∙ (ap₂ (λ xs x. xs ++ x ∷ []) w.asked same ∙ sym (take_more asks k e lt));
      answered = All-append (IsReply d left) found (r ∷ []) w.answered (All-cons (IsReply d left) r [] is (All-nil (IsReply d left)));
    } in
    subst (AreReplies d left (take (k + 1) asks)) (sym grown) whole
