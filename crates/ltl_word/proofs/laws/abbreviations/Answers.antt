use Rattle.std.proofs.Common.{inl, inr, refl}
use Rattle.ltl_word.proofs.laws.abbreviations.Goals as goal

pub returns-clause-eventually : goal.returns-clause-eventually
returns-clause-eventually c a t i good = (λ w. (w.0, w.1.0, w.1.1, w.2, λ k low high. refl), λ w. (w.0, (w.1, w.2), w.3))

pub returns-clause-always : goal.returns-clause-always
returns-clause-always c a t i good = (λ f j le at. inl (f j (le, at)), λ f j w. elim (f j w.0 w.1) [ inl x ↦ x | inr v ↦ let e = v.3 in absurd (cc) ])

pub returns-clause-once : goal.returns-clause-once
returns-clause-once c a t i good = (λ w. (w.0, w.1, w.2, λ k low high. refl), λ w. (w.0, w.1, w.2))

pub returns-clause-historically : goal.returns-clause-historically
returns-clause-historically c a t i good = (λ f j le. inl (f j le), λ f j w. elim (f j w) [ inl x ↦ x | inr v ↦ let e = v.3 in absurd (cc) ])
