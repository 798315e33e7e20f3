use Rattle.std.proofs.Common.{map, string_bytes, refl}
use Rattle.command_words.specs.declared.asked.Asked.TheVariants as asked
use Rattle.command_words.specs.declared.table.CommandName.TheVariants as commands
use Rattle.command_words.proofs.Asking.{match_mapped, no_settings, no_number}
use Rattle.command_words.proofs.asked.asked_further.Goals as goal

pub returns-in_ok-said_options-in-Solve : goal.returns-in_ok-said_options-in-Solve
returns-in_ok-said_options-in-Solve c =
    let words = map string_bytes c.args.words.now in
    let known = rw c.in-Solve.is at c.in_ok-said_options-in-Solve.ensures in
    rw c.in-Solve.is (match_mapped c.in_ok-said_options-in-Solve.field-0 c.map-asked.result asked.Solve _ _ _ _ c.map-asked.ensures.cases known
    (no_settings commands.Solve words refl) (λ options are. (refl, are)))

pub returns-in_ok-said_options-in-Check : goal.returns-in_ok-said_options-in-Check
returns-in_ok-said_options-in-Check c =
    let words = map string_bytes c.args.words.now in
    let known = rw c.in-Check.is at c.in_ok-said_options-in-Check.ensures in
    rw c.in-Check.is (match_mapped c.in_ok-said_options-in-Check.field-0 c.map-asked-in-Check.result asked.Check _ _ _ _ c.map-asked-in-Check.ensures.cases
    known (no_settings commands.Check words refl) (λ options are. (refl, are)))

pub returns-in_ok-said_options-in-Batch : goal.returns-in_ok-said_options-in-Batch
returns-in_ok-said_options-in-Batch c =
    let words = map string_bytes c.args.words.now in
    let known = rw c.in-Batch.is at c.in_ok-said_options-in-Batch.ensures in
    rw c.in-Batch.is (match_mapped c.in_ok-said_options-in-Batch.field-0 c.map-asked-in-Batch.result asked.Batch _ _ _ _ c.map-asked-in-Batch.ensures.cases
    known (no_settings commands.Batch words refl) (λ options are. (refl, are)))

pub returns-in_ok-said_options-in-System : goal.returns-in_ok-said_options-in-System
returns-in_ok-said_options-in-System c =
    let words = map string_bytes c.args.words.now in
    let known = rw c.in-System.is at c.in_ok-said_options-in-System.ensures in
    rw c.in-System.is (match_mapped c.in_ok-said_options-in-System.field-0 c.map-asked-in-System.result asked.System _ _ _ _ c.map-asked-in-System.ensures.cases
    known (no_settings commands.System words refl) (λ options are. (refl, are)))

pub returns-in-Demo : goal.returns-in-Demo
returns-in-Demo c =
    let words = map string_bytes c.args.words.now in
    rw c.in-Demo.is (match_mapped c.demo_number.result c.map-asked-in-Demo.result asked.Demo _ _ _ _ c.map-asked-in-Demo.ensures.cases c.demo_number.ensures
    (no_number words) (λ n is. (refl, is)))
