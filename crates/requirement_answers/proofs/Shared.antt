-- Questions that are shared out: what answers of one part and of the next come to, by rounds and by pieces.
use Rattle.std.proofs.Common.{◌≡◌, ◌∙◌, ℕ, zero, suc, ◌+◌, ◌*◌, ◌/◌, ◌%◌, ◌<◌, ◌≤◌, min, List, [], ◌∷◌, ◌++◌, length, take, drop, get_or, Result, Ok, Err, IsOk}
use Rattle.std.proofs.Common.{IfOk, refl, sym, ap, ap₂, subst, arith}
use Rattle.std.specs.Global.{Vec}
use Rattle.std.specs.List.{All, flat_map}
use Rattle.std.specs.declared.alloc.AllocError.{AllocError}
use Rattle.std.specs.Fork.{slice_chunk}
use Rattle.std.proofs.lemmas.Grind.{flat_map-append, div_ceil_times}
use Rattle.std.proofs.lemmas.List.{take-append-drop, take-take, drop-take, take_more, take_all, map-append, append-nil}
use Rattle.std.proofs.lemmas.List.Elements.{All-append, All-nil, All-cons, All-take, All-drop}
use Rattle.requirement_document.specs.Values.{DocumentValue}
use Rattle.requirement_answers.specs.declared.asking.Asking.{Asking}
use Rattle.requirement_answers.specs.declared.asking.Reply.{Reply}
use Rattle.requirement_answers.specs.Answers.{IsReply}
use Rattle.requirement_answers.specs.Inner.{IsAbout, AreReplies, of_piece, AreJoined}

-- ---- parts of a list

pub take_on : {X : Type 0} (n m : ℕ) (xs : List X) → take (n + m) xs ≡ take n xs ++ take m (drop n xs)
take_on n m xs = sym (take-append-drop n (take (n + m) xs)) ∙ ap₂ (λ ys zs. ys ++ zs) (take-take n (n + m) xs (omega arith)) (drop-take n m xs)

pub about_part : (d : DocumentValue) (n m : ℕ) (asks : List Asking) → All (IsAbout d) asks → All (IsAbout d) (take m (drop n asks))
about_part d n m asks all = All-take (IsAbout d) m (drop n asks) (All-drop (IsAbout d) n asks all)

-- ---- one part after the other

replies_on : (d : DocumentValue) (left : List ℕ) (first next : List Asking) (found more : List Reply) → AreReplies d left first found
    → AreReplies d left next more → AreReplies d left (first ++ next) (found ++ more)
replies_on d left first next found more w v = record {
  asked = map-append (λ p. p.asking) found more ∙ ap₂ (λ xs ys. xs ++ ys) w.asked v.asked;
  answered = All-append (IsReply d left) found more w.answered v.answered;
}

pub no_replies : (d : DocumentValue) (left : List ℕ) (asks : List Asking) → AreReplies d left (take 0 asks) []
no_replies d left asks = record { asked = refl; answered = All-nil (IsReply d left) }

-- a round more
pub round_more : (d : DocumentValue) (left : List ℕ) (asks part : List Asking) (from many : ℕ) (found more new : List Reply)
    → AreReplies d left (take from asks) found → part ≡ take many (drop from asks) → AreReplies d left part more
    → new ≡ found ++ more → AreReplies d left (take (from + many) asks) new
round_more d left asks part from many found more new w is v grown =
    let whole = replies_on d left (take from asks) (take many (drop from asks)) found more w (subst (λ xs. AreReplies d left xs more) is v) in
    subst (AreReplies d left (take (from + many) asks)) (sym grown) (subst (λ xs. AreReplies d left xs (found ++ more)) (sym (take_on from many asks)) whole)

-- all rounds
pub all_rounds : (d : DocumentValue) (left : List ℕ) (asks : List Asking) (from : ℕ) (found : List Reply) → length asks ≤ from
    → AreReplies d left (take from asks) found → AreReplies d left asks found
all_rounds d left asks from found all w = subst (λ xs. AreReplies d left xs found) (take_all from asks all) w

-- ---- pieces

-- one more
pub piece_more : (pieces : List (Result (Vec Reply) AllocError)) (v : Vec Reply) (found new : List Reply) → AreJoined pieces found → new ≡ found ++ v.items
    → AreJoined (pieces ++ Ok v ∷ []) new
piece_more pieces v found new w grown = record {
  whole = All-append IsOk pieces (Ok v ∷ []) w.whole (All-cons IsOk (Ok v) [] refl (All-nil IsOk));
  joined = grown ∙ (ap₂ (λ xs ys. xs ++ ys) w.joined (sym (append-nil v.items)) ∙ sym (flat_map-append of_piece pieces (Ok v ∷ [])));
}

module _ (d : DocumentValue) (left : List ℕ) (asks : List Asking) (size : ℕ) (pieces : List (Result (Vec Reply) AllocError))
    (each : (n : ℕ) (e : Result (Vec Reply) AllocError) → n < length pieces
    → IfOk (get_or pieces n e) (λ v. AreReplies d left (slice_chunk asks size n) v.items)) (whole : All IsOk pieces) where
  in_piece : (xs : List Asking) (r : Result (Vec Reply) AllocError) → IsOk r → IfOk r (λ v. AreReplies d left xs v.items) → AreReplies d left xs (of_piece r)
  in_piece xs (Ok v) is w = w
  in_piece xs (Err e) is w = absurd (cc)

  none : AllocError
  none = record {}

  first_pieces : (e : Result (Vec Reply) AllocError) (n : ℕ) → n ≤ length pieces → AreReplies d left (take (n * size) asks) (flat_map of_piece (take n pieces))
  first_pieces e zero le = subst (λ k. AreReplies d left (take k asks) []) (let same : 0 ≡ 0 * size = omega arith in same) (no_replies d left asks)
  first_pieces e (suc n) le =
      let lt : n < length pieces = omega (arith, le) in
      let r = get_or pieces n e in
      let before = first_pieces e n (omega (arith, le)) in
      let here = in_piece (slice_chunk asks size n) r (whole n e lt) (each n e lt) in
      let on : n + 1 ≡ suc n = omega arith in
      let long : n * size + size ≡ suc n * size = omega arith in
      let grown : flat_map of_piece (take (suc n) pieces) ≡ flat_map of_piece (take n pieces) ++ of_piece r =
      ap (λ k. flat_map of_piece (take k pieces)) (sym on) ∙ (ap (flat_map of_piece) (take_more pieces n e lt)
      ∙ (flat_map-append of_piece (take n pieces) (r ∷ []) ∙ ap (λ xs. flat_map of_piece (take n pieces) ++ xs) (append-nil (of_piece r)))) in
      subst (λ k. AreReplies d left (take k asks) (flat_map of_piece (take (suc n) pieces))) long
      (round_more d left asks (slice_chunk asks size n) (n * size) size (flat_map of_piece (take n pieces)) (of_piece r)
      (flat_map of_piece (take (suc n) pieces)) before refl here grown)

  pub all_pieces : (found : List Reply) → 1 ≤ size → length pieces ≡ length asks / size + min 1 (length asks % size) → found ≡ flat_map of_piece pieces
      → AreReplies d left asks found
  all_pieces found some many joined =
      let all : length asks ≤ length pieces * size = subst (λ n. length asks ≤ n * size) (sym many) (div_ceil_times (length asks) size some).0 in
      let first = first_pieces (Err none) (length pieces) (omega arith) in
      let same : flat_map of_piece (take (length pieces) pieces) ≡ found =
      ap (flat_map of_piece) (take_all (length pieces) pieces (omega arith)) ∙ sym joined in
      all_rounds d left asks (length pieces * size) found all (subst (AreReplies d left (take (length pieces * size) asks)) same first)

pub shared_out : (d : DocumentValue) (left : List ℕ) (asks : List Asking) (size : ℕ) (pieces : List (Result (Vec Reply) AllocError))
    → ((n : ℕ) (e : Result (Vec Reply) AllocError) → n < length pieces → IfOk (get_or pieces n e) (λ v. AreReplies d left (slice_chunk asks size n) v.items))
    → 1 ≤ size
    → length pieces ≡ length asks / size + min 1 (length asks % size) → (r : Result (Vec Reply) AllocError)
    → IfOk r (λ found. AreJoined pieces found.items) → IfOk r (λ found. AreReplies d left asks found.items)
shared_out d left asks size pieces each some many (Ok v) w = all_pieces d left asks size pieces each w.whole v.items some many w.joined
shared_out d left asks size pieces each some many (Err e) w = tt
