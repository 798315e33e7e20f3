use Rattle.std.proofs.Common.{◌≡◌, ◌-◌, ℕ, suc, ap, sym, ◌∙◌, arith}
use Rattle.std.specs.Prelude.{is_some}
use Rattle.std.proofs.lemmas.Bool.{eq-eqb, eqb-true}
use Rattle.cert_text.specs.Text.{Certificate, greatest_u64}
use Rattle.cert_text.specs.Live.{live_line}
use Rattle.cert_text.specs.Reading.{certificate_in}
use Rattle.cert_text.proofs.Views.{line_low, count_fits, end_open, live_open, open_live, end_of_open}
use Rattle.cert_text.proofs.view.CertView.live_at_close.Goals as goal

pub returns : goal.returns
returns c =
    let bytes = c.self.inside.bytes.now in
    let d = certificate_in bytes in
    let k : ℕ = c.args.line - 1 in
    let low = line_low d c.args.self.now c.args.line c.self.view_is c.requires.from_one c.requires.in_text in
    let at = c.index.ensures ∙ c.self.invariant.marks.each_end k c.index.result.now low in
    let number : suc k ≡ c.args.line = omega (arith, c.requires.from_one) in
    let same = ap (λ (x : Certificate). is_some (live_line x.parts (suc k))) c.self.view_is ∙ ap (λ m. is_some (live_line c.args.self.now.parts m)) number in (
      λ is. sym same ∙ live_open d.parts k low (end_open d.parts k (let few = count_fits bytes d c.self.invariant.is in omega (arith, few, c.self.told.0)) low
          (sym at ∙ eqb-true c.index.result.now greatest_u64 is)),
      λ is. eq-eqb c.index.result.now greatest_u64 (at ∙ end_of_open d.parts k (open_live d.parts k (same ∙ is))),
    )
