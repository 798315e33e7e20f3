use Rattle.std.proofs.Common.{map, string_bytes, subst}
use Rattle.black_view.specs.Output.{IsViewed}
use Rattle.black_view.proofs.Answering.{help_as, version_as, usage_as, picture_as}
use Rattle.black_view.proofs.view.output.Goals as goal

pub returns-in_ok-told-in-Help-clause-answer : goal.returns-in_ok-told-in-Help-clause-answer
returns-in_ok-told-in-Help-clause-answer g c =
    let out = c.in_ok-told-in-Help.field-0 in
    help_as (map string_bytes c.args.words.now)
    _ c.in_ok-request_in.field-0 out.status out.text.items c.in_ok-request_in.ensures c.in-Help.is c.in_ok-told-in-Help.ensures

pub returns-in_ok-told-in-Version-clause-answer : goal.returns-in_ok-told-in-Version-clause-answer
returns-in_ok-told-in-Version-clause-answer g c =
    let out = c.in_ok-told-in-Version.field-0 in
    version_as (map string_bytes c.args.words.now)
    _ c.in_ok-request_in.field-0 out.status out.text.items c.in_ok-request_in.ensures c.in-Version.is c.in_ok-told-in-Version.ensures

pub returns-in_ok-told-in-Nothing-clause-answer : goal.returns-in_ok-told-in-Nothing-clause-answer
returns-in_ok-told-in-Nothing-clause-answer g c =
    let out = c.in_ok-told-in-Nothing.field-0 in
    usage_as (map string_bytes c.args.words.now)
    _ c.in_ok-request_in.field-0 out.status out.text.items c.in_ok-request_in.ensures c.in-Nothing.is c.in_ok-told-in-Nothing.ensures

pub returns-in_ok-output-in-Picture-clause-answer : goal.returns-in_ok-output-in-Picture-clause-answer
returns-in_ok-output-in-Picture-clause-answer g c =
    let out = c.in_ok-output-in-Picture.output in
    picture_as (map string_bytes c.args.words.now) _ _ c.in_ok-request_in.field-0 c.in-Picture.request c.in_ok-bytes-in-Picture.bytes.items out.status
    out.text.items c.in_ok-request_in.ensures c.in-Picture.is
    c.in_ok-bytes-in-Picture.ensures.bytes
    (subst (λ bytes. IsViewed c.in-Picture.request bytes out.status out.text.items) c.deref.ensures.value c.in_ok-output-in-Picture.ensures)
