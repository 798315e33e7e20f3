use Rattle.std.proofs.Common.{◌≡◌, ◌∙◌, sym, ap, subst, codes}
use Rattle.clap.specs.Words.{found_of, one_text, first_value}
use Rattle.command_words.specs.declared.table.OptionName.TheVariants as names
use Rattle.command_words.specs.Words.{stands, depth_of, workers_of, steps_of}
use Rattle.command_words.specs.Asked.{IsDepth, AreWorkers, IsSteps}
use Rattle.command_words.specs.Matching.{IsNumberText}
use Rattle.command_words.proofs.Telling.{flag_read, finite_read, infinite_read, kind_if, small_depth, few_workers, counted_steps}
use Rattle.command_words.proofs.options.matched_options.Goals as goal
use Rattle.command_words.proofs.options.matched_options.Goals.{then-get_flag, else-get_flag}

pub returns : goal.returns
returns c settings said =
    let found = found_of c.in_ok-matches.matches in
    let tells = c.in_ok-matches.ensures settings said in
    let finite = flag_read c.get_flag.result (stands names.Finite settings) (one_text found (codes "finite")) c.get_flag.ensures.value c.get_flag.ensures.other
    (tells names.Finite) in
    let kind : c.if-get_flag.kind ≡ kind_if c.get_flag.result = elim c.if-get_flag.branch [
      | then-get_flag w ↦ finite_read c.if-get_flag.kind c.get_flag.result w.if-get_flag.true w.kind-is
      | else-get_flag w ↦ infinite_read c.if-get_flag.kind c.get_flag.result w.if-get_flag.false w.kind-is
    ] in
    let depth_text = subst (λ t. IsNumberText (record { digits = 4; low = 0; high = 1000 }) t (depth_of settings)) (sym c.get_str.ensures)
    (tells names.Depth) in
    let depth = c.number_in-depth.ensures (depth_of settings) depth_text in
    let workers_text = subst (λ t. IsNumberText (record { digits = 2; low = 1; high = 16 }) t (workers_of settings)) (sym c.get_str-2.ensures)
    (tells names.Workers) in
    let workers = c.number_in-workers.ensures (workers_of settings) workers_text in
    let steps_text = subst (λ t. IsNumberText (record { digits = 9; low = 1; high = 999999999 }) t (steps_of settings)) (sym c.get_str-3.ensures)
    (tells names.Steps) in
    let steps = c.number_in-steps.ensures (steps_of settings) steps_text in
    record {
      kind = kind ∙ ap kind_if finite;
      depth = depth;
      cert = flag_read c.get_flag-cert.result (stands names.Cert settings) (one_text found (codes "cert"))
          c.get_flag-cert.ensures.value c.get_flag-cert.ensures.other (tells names.Cert);
      core = flag_read c.get_flag-core.result (stands names.Core settings) (one_text found (codes "core"))
          c.get_flag-core.ensures.value c.get_flag-core.ensures.other (tells names.Core);
      workers = workers;
      check = flag_read c.get_flag-check.result (stands names.Check settings) (one_text found (codes "check"))
          c.get_flag-check.ensures.value c.get_flag-check.ensures.other (tells names.Check);
      steps = steps;
      progress = flag_read c.get_flag-progress.result (stands names.Progress settings) (one_text found (codes "progress"))
          c.get_flag-progress.ensures.value c.get_flag-progress.ensures.other (tells names.Progress);
      small = subst IsDepth (sym depth) (small_depth (first_value found (codes "depth")) (depth_of settings) (tells names.Depth));
      few = subst AreWorkers (sym workers) (few_workers (first_value found (codes "workers")) (workers_of settings) (tells names.Workers));
      counted = subst IsSteps (sym steps) (counted_steps (first_value found (codes "steps")) (steps_of settings) (tells names.Steps));
    }
