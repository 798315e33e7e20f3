-- Claims that agree at the numbers of a range: the operators keep agreement, and a dual agrees with the negation of its operator.
use Rattle.std.proofs.Common.{ℕ, ◌⊎◌, inl, inr, ◌↔◌, arith}
use Rattle.ltl_word.specs.Claims.{Claim, IsUntil, IsReleased, IsSince, IsTriggered, Always'}
use Rattle.ltl_word.proofs.Search.{IsDecided, ¬_decided}
use Rattle.ltl_word.proofs.Expansion.{IsClosed}
use Rattle.ltl_word.proofs.Duality.{Negated, HasHorizon, Released-from_no_until, no_release-from_until, no_until-from_release, Released-from_not, Since_decided}
use Rattle.ltl_word.proofs.Duality.{Triggered-from_no_since, no_trigger-from_since, no_since-from_trigger, Triggered-from_not, Until_decided}

-- claims are compared at the numbers that have Q: all positions, and with each number those before it
pub record IsRange (P Q : Claim) : Type 0 where
  pub closed : IsClosed Q
  pub whole : (i : ℕ) → P i → Q i

-- all numbers are such a range
pub all_numbers : (P : Claim) → IsRange P Always'
all_numbers P = record { closed = λ i j le at. tt; whole = λ i at. tt }

-- A implies B at each number that has Q
abbrev pub Gives : Claim → Claim → Claim → Type 0
Gives Q A B = (i : ℕ) → Q i → A i → B i

module _ {P Q : Claim} (range : IsRange P Q) (A B C D : Claim) (f : Gives Q A C) (g : Gives Q B D) where
  pub Until-maps : Gives Q (IsUntil P A B) (IsUntil P C D)
  Until-maps i q (j, le, at, b, all) = (j, le, at, g j (range.whole j at) b, λ k l h. f k (range.closed k j (omega arith) (range.whole j at)) (all k l h))

  pub Released-maps : Gives Q (IsReleased P A B) (IsReleased P C D)
  Released-maps i q h j le at = elim (h j le at) [
    | inl b ↦ inl (g j (range.whole j at) b)
    | inr w ↦ inr (w.0, w.1, w.2, f w.0 (range.closed w.0 j (omega arith) (range.whole j at)) w.3)
  ]

  pub Since-maps : Gives Q (IsSince A B) (IsSince C D)
  Since-maps i q (j, le, b, all) = (j, le, g j (range.closed j i le q) b, λ k l h. f k (range.closed k i h q) (all k l h))

  pub Triggered-maps : Gives Q (IsTriggered A B) (IsTriggered C D)
  Triggered-maps i q h j le = elim (h j le) [
    | inl b ↦ inl (g j (range.closed j i le q) b)
    | inr w ↦ inr (w.0, w.1, w.2, f w.0 (range.closed w.0 i w.2 q) w.3)
  ]

-- A and B hold at the same numbers of those that have Q
pub record Same (Q A B : Claim) : Type 0 where
  pub to : Gives Q A B
  pub back : Gives Q B A

pub both : {Q A B : Claim} → Same Q A B → (i : ℕ) → Q i → A i ↔ B i
both s i q = (s.to i q, s.back i q)

pub both_back : {A B : Claim} → Same Always' A B → (i : ℕ) → B i ↔ A i
both_back s i = (s.back i tt, s.to i tt)

pub Same-self : {Q : Claim} (A : Claim) → Same Q A A
Same-self A = record { to = λ i q a. a; back = λ i q a. a }

pub Same-then : {Q : Claim} (A B C : Claim) → Same Q A B → Same Q B C → Same Q A C
Same-then A B C f g = record { to = λ i q a. g.to i q (f.to i q a); back = λ i q c. f.back i q (g.back i q c) }

pub Same-turned : {Q : Claim} (A B : Claim) → Same Q A B → Same Q B A
Same-turned A B f = record { to = f.back; back = f.to }

-- from agreement number by number, the other way round
pub Same-back : {Q : Claim} (A B : Claim) → ((i : ℕ) → Q i → B i ↔ A i) → Same Q A B
Same-back A B f = record { to = λ i q a. (f i q).1 a; back = λ i q b. (f i q).0 b }

pub Same-not : {Q : Claim} (A B : Claim) → Same Q A B → Same Q (Negated A) (Negated B)
Same-not A B f = record { to = λ i q h b. h (f.back i q b); back = λ i q h a. h (f.to i q a) }

pub Same-and : {Q : Claim} (A B C D : Claim) → Same Q A C → Same Q B D → Same Q (λ i. A i × B i) (λ i. C i × D i)
Same-and A B C D f g = record { to = λ i q w. (f.to i q w.0, g.to i q w.1); back = λ i q w. (f.back i q w.0, g.back i q w.1) }

pub Same-or : {Q : Claim} (A B C D : Claim) → Same Q A C → Same Q B D → Same Q (λ i. A i ⊎ B i) (λ i. C i ⊎ D i)
Same-or A B C D f g = record {
  to = λ i q w. elim w [ inl a ↦ inl (f.to i q a) | inr b ↦ inr (g.to i q b) ];
  back = λ i q w. elim w [ inl a ↦ inl (f.back i q a) | inr b ↦ inr (g.back i q b) ];
}

pub Same-implies : {Q : Claim} (A B C D : Claim) → Same Q A C → Same Q B D → Same Q (λ i. A i → B i) (λ i. C i → D i)
Same-implies A B C D f g = record { to = λ i q h c. g.to i q (h (f.back i q c)); back = λ i q h a. g.back i q (h (f.to i q a)) }

pub Same-iff : {Q : Claim} (A B C D : Claim) → Same Q A C → Same Q B D → Same Q (λ i. A i ↔ B i) (λ i. C i ↔ D i)
Same-iff A B C D f g = record {
  to = λ i q h. (λ c. g.to i q (h.0 (f.back i q c)), λ d. f.to i q (h.1 (g.back i q d)));
  back = λ i q h. (λ a. g.back i q (h.0 (f.to i q a)), λ b. f.back i q (h.1 (g.to i q b)));
}

-- the claims C and D stand for the negations of A and B
module _ {Q : Claim} (A B C D : Claim) (da : IsDecided A) (f : Same Q C (Negated A)) (g : Same Q D (Negated B)) where
  pub Same-no_and : Same Q (λ i. C i ⊎ D i) (Negated (λ i. A i × B i))
  Same-no_and = record {
    to = λ i q w v. elim w [ inl c ↦ f.to i q c v.0 | inr d ↦ g.to i q d v.1 ];
    back = λ i q h. elim (da i) [
      | no n ↦ inl (f.back i q n)
      | yes a ↦ inr (g.back i q (λ b. h (a, b)))
    ];
  }

  pub Same-no_or : Same Q (λ i. C i × D i) (Negated (λ i. A i ⊎ B i))
  Same-no_or = record {
    to = λ i q w v. elim v [ inl a ↦ f.to i q w.0 a | inr b ↦ g.to i q w.1 b ];
    back = λ i q h. (f.back i q (λ a. h (inl a)), g.back i q (λ b. h (inr b)));
  }

  pub Same-no_implies : Same Q (λ i. A i × D i) (Negated (λ i. A i → B i))
  Same-no_implies = record {
    to = λ i q w h. g.to i q w.1 (h w.0);
    back = λ i q h. elim (da i) [
      | yes a ↦ (a, g.back i q (λ b. h (λ a'. b)))
      | no n ↦ absurd (h (λ a. absurd (n a)))
    ];
  }

  pub Same-no_iff : IsDecided B → Same Q (λ i. (A i → D i) × (D i → A i)) (Negated (λ i. (A i → B i) × (B i → A i)))
  Same-no_iff db = record {
    to = λ i q w h. elim (da i) [
      | yes a ↦ g.to i q (w.0 a) (h.0 a)
      | no n ↦ n (w.1 (g.back i q (λ b. n (h.1 b))))
    ];
    back = λ i q h. (
      λ a. g.back i q (λ b. h (λ a'. b, λ b'. a)),
      λ d. elim (da i) [
        | yes a ↦ a
        | no n ↦ absurd (h (λ a. absurd (n a), λ b. absurd (g.to i q d b)))
      ],
    );
  }

module _ {P Q : Claim} (range : IsRange P Q) where
  pub Same-until : (A B C D : Claim) → Same Q A C → Same Q B D → Same Q (IsUntil P A B) (IsUntil P C D)
  Same-until A B C D f g = record { to = Until-maps range A B C D f.to g.to; back = Until-maps range C D A B f.back g.back }

  pub Same-released : (A B C D : Claim) → Same Q A C → Same Q B D → Same Q (IsReleased P A B) (IsReleased P C D)
  Same-released A B C D f g = record { to = Released-maps range A B C D f.to g.to; back = Released-maps range C D A B f.back g.back }

  -- the release of what is not is what is no until
  pub Same-no_until : (A B C D : Claim) → IsDecided A → IsDecided B → Same Q C (Negated A) → Same Q D (Negated B)
      → Same Q (IsReleased P C D) (Negated (IsUntil P A B))
  Same-no_until A B C D da db f g = record {
    to = λ i q r u. no_until-from_release P A B i (Released-maps range C D _ _ f.to g.to i q r) u;
    back = λ i q h. Released-maps range _ _ C D f.back g.back i q (Released-from_not P A B da db i h);
  }

  -- the until of what is not is what is no release
  pub Same-no_release : (A B C D : Claim) → IsDecided P → IsDecided A → IsDecided B → ((i : ℕ) → HasHorizon P (Negated A) (Negated B) i) → Same Q C (Negated A)
      → Same Q D (Negated B)
      → Same Q (IsUntil P C D) (Negated (IsReleased P A B))
  Same-no_release A B C D dp da db near f g = record {
    to = λ i q u r. no_release-from_until P A B i (Until-maps range C D _ _ f.to g.to i q u) r;
    back = λ i q h.
        elim (Until_decided P (Negated A) (Negated B) dp (λ j. ¬_decided (da j)) (λ j. ¬_decided (db j)) i (near i)) [
          | yes u ↦ Until-maps range _ _ C D f.back g.back i q u
          | no n ↦ absurd (h (Released-from_no_until P A B da db i n))
        ];
  }

  pub Same-since : (A B C D : Claim) → Same Q A C → Same Q B D → Same Q (IsSince A B) (IsSince C D)
  Same-since A B C D f g = record { to = Since-maps range A B C D f.to g.to; back = Since-maps range C D A B f.back g.back }

  pub Same-triggered : (A B C D : Claim) → Same Q A C → Same Q B D → Same Q (IsTriggered A B) (IsTriggered C D)
  Same-triggered A B C D f g = record { to = Triggered-maps range A B C D f.to g.to; back = Triggered-maps range C D A B f.back g.back }

  module _ (A B C D : Claim) (da : IsDecided A) (db : IsDecided B) (f : Same Q C (Negated A)) (g : Same Q D (Negated B)) where
    -- the trigger of what is not is what is no since
    pub Same-no_since : Same Q (IsTriggered C D) (Negated (IsSince A B))
    Same-no_since = record {
      to = λ i q r u. no_since-from_trigger A B i (Triggered-maps range C D _ _ f.to g.to i q r) u;
      back = λ i q h. Triggered-maps range _ _ C D f.back g.back i q (Triggered-from_not A B da db i h);
    }

    -- the since of what is not is what is no trigger
    pub Same-no_trigger : Same Q (IsSince C D) (Negated (IsTriggered A B))
    Same-no_trigger = record {
      to = λ i q u r. no_trigger-from_since A B i (Since-maps range C D _ _ f.to g.to i q u) r;
      back = λ i q h.
          elim (Since_decided (Negated A) (Negated B) (λ j. ¬_decided (da j)) (λ j. ¬_decided (db j)) i) [
            | yes u ↦ Since-maps range _ _ C D f.back g.back i q u
            | no n ↦ absurd (h (Triggered-from_no_since A B da db i n))
          ];
    }
