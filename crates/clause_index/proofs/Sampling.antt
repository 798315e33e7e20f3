-- One sample more.
use Rattle.std.proofs.Common.{◌≡◌, ℕ, ◌+◌, ◌<◌, arith, inl, inr, ap, sym, ◌∙◌, List, length, slice_index_or, slice_set}
use Rattle.std.proofs.lemmas.Bool.{cases_lt}
use Rattle.std.proofs.lemmas.List.{get_or-set_other}
use Rattle.std.proofs.lemmas.Grind.{get_or-set_at}
use Rattle.ltl_closure.specs.declared.entry.Entry.{Entry}
use Rattle.clause_index.specs.ByNumber.{gates_before}
use Rattle.clause_index.specs.Samples.{sample_start}

pub sample_more : (entries : List Entry) (apart : ℕ) (before : List ℕ) (sample count : ℕ) → length before ≡ 256 → sample < 256
    → count ≡ gates_before entries (sample_start entries apart sample)
    → ((b : ℕ) → b < sample → slice_index_or before b 0 ≡ gates_before entries (sample_start entries apart b))
    → (b : ℕ) → b < sample + 1 → slice_index_or (slice_set before sample count) b 0 ≡ gates_before entries (sample_start entries apart b)
sample_more entries apart before sample count long inside is each b lt = elim (cases_lt b sample) [
  | inl first ↦ get_or-set_other before sample b count 0 (λ e. absurd (omega arith)) ∙ each b first
  | inr last ↦
      let e : b ≡ sample = omega arith in
      get_or-set_at before sample b count 0 e (omega arith) ∙ (is ∙ ap (λ k. gates_before entries (sample_start entries apart k)) (sym e))
]
