use Rattle.std.proofs.Common.{Some, sym, ap, ◌∙◌}
use Rattle.std.proofs.lemmas.Result.{on_ok_weaker}
use Rattle.std.specs.FinMap as map
use Rattle.rambo_node.specs.Kept.{move_deed}
use Rattle.rambo_node.specs.Operations.{taken}
use Rattle.rambo_node.specs.Prepared.{put_by, sequence_before}
use Rattle.rambo_node.specs.Refusals.{is_last, tags_spent}
use Rattle.rambo_node.specs.declared.deed.Deed.{Deed}
use Rattle.rambo_node.specs.declared.effect.Effect.TheVariants as effect
use Rattle.rambo_node.proofs.node.Node.tell_query.Goals as goal

pub tell_set-requires : goal.tell_set-requires
tell_set-requires g c =
    let x = c.args.self.now.state in
    let before = c.requires.before ∙ ap (λ o. sequence_before x (Some o)) c.in-Set.is in
    let tags = ap is_last before ∙ sym (ap (tags_spent x) c.in-Set.is) ∙ c.requires.tags in
    (c.requires-raw.1.1.0, (before, (tags, (c.requires.alone, c.requires.quiet))))

pub returns-in_ok-held-in-Get-clause-moving : goal.returns-in_ok-held-in-Get-clause-moving
returns-in_ok-held-in-Get-clause-moving g c =
    let x = c.args.self.now.state in
    let m = c.args.moving.now in
    let kept = c.in_ok-held-in-Get.ensures.same ∙ c.copy.ensures ∙ ap (map.get _) c.as_slice.ensures ∙ ap (λ v. map.get v.state.registers c.in-Get.key) c.self.view_is ∙ sym (ap (taken x) c.in-Get.is) in
    let put = c.requires.alone.put ∙ sym (ap (λ o. put_by x (Some o)) c.in-Get.is) in
    λ i. record m { kept = kept i; put = put i }

pub returns-in_ok-held-in-Get-clause-deed : goal.returns-in_ok-held-in-Get-clause-deed
returns-in_ok-held-in-Get-clause-deed g c =
    let x = c.args.self.now.state in
    ap (λ (d : Deed _). record d { effect = effect.Moved }) c.requires.quiet ∙ sym (ap (λ o. move_deed c.args.moving.now.id o (taken x o)) c.in-Get.is)

pub returns-in-Set-clause-moving : goal.returns-in-Set-clause-moving
returns-in-Set-clause-moving g c =
    let x = c.args.self.now.state in
    let m = c.args.moving.now in
    on_ok_weaker c.tell_set.result (λ e. e ∙ sym (ap (λ o. record m { kept = taken x o; put = put_by x (Some o) }) c.in-Set.is)) c.tell_set.ensures.moving

pub returns-in-Set-clause-deed : goal.returns-in-Set-clause-deed
returns-in-Set-clause-deed g c =
    let x = c.args.self.now.state in
    on_ok_weaker c.tell_set.result (λ e. e ∙ sym (ap (λ o. move_deed c.args.moving.now.id o (taken x o)) c.in-Set.is)) c.tell_set.ensures.deed
