use Rattle.std.proofs.Common.{◌≡◌, ◌<◌, ◌≤◌, ◌-◌, ◌∙◌, length, sym, ap, subst, arith}
use Rattle.std.proofs.lemmas.List.{length-set}
use Rattle.std.proofs.lemmas.Result.{IfOk-weaker, on_ok_weaker, on_err_weaker}
use Rattle.rambo_names.proofs.Sizes.{up_fits, back_fits}
use Rattle.rambo_world.proofs.Growth.{same_grow}
use Rattle.rambo_world.proofs.Heard.{either_way, judged_here, heard_nodes, heard_grow, unheard_same}
use Rattle.rambo_world.proofs.nodes.Nodes.hear.Goals as goal

pub hear-requires : goal.hear-requires
hear-requires g c = (back_fits _ _ _ (up_fits _ _ _ c.requires-raw.1.1.0), c.requires.join)

pub index_mut-node-requires : goal.index_mut-node-requires
index_mut-node-requires g c = omega (arith, c.place_of.ensures.within, c.self.inside.list.ok.0, c.self.invariant.0)

pub invariant_of-self : goal.invariant_of-self
invariant_of-self g c =
    let ls = c.self.inside.logs.logs in (
      length-set c.self.inside.list.items c.place_of.result c.hear.new.node ∙ c.self.invariant.0,
      either_way c.hear.result c.hear.ensures.heard c.hear.ensures.stays c.hear.ensures.err (λ h. ap length h.logs ∙ length-set ls _ _ ∙ c.self.invariant.1) (λ u. ap length u.logs ∙ c.self.invariant.1),
    )

pub returns-clause-told : goal.returns-clause-told
returns-clause-told g c =
    let xs = c.self.inside.list.items in
    let l = c.args.letter.now in
    let at : c.place_of.result ≡ l.addressee - 1 = c.place_of.ensures.place ∙ ap (λ l. l.addressee - 1) c.letter.view_is in
    let named : 1 ≤ l.addressee = subst (λ l. 1 ≤ l.addressee) c.letter.view_is c.place_of.ensures.named.0 in
    let below : c.place_of.result < length xs = subst (λ n. c.place_of.result < n) (sym c.self.invariant.0) c.place_of.ensures.within in
    IfOk-weaker c.hear.result _ _ (λ r e. e ∙ judged_here xs c.self.inside.logs.logs c.args.self.now c.self.view_is c.self.invariant.0 c.self.invariant.1 l c.place_of.result at named c.index_mut-node.result.now c.hear.new.node below c.index_mut-node.ensures.value g.Q.Quorums.system) c.hear.ensures.told

pub returns-clause-heard : goal.returns-clause-heard
returns-clause-heard g c =
    let xs = c.self.inside.list.items in
    let l = c.args.letter.now in
    let at : c.place_of.result ≡ l.addressee - 1 = c.place_of.ensures.place ∙ ap (λ l. l.addressee - 1) c.letter.view_is in
    let named : 1 ≤ l.addressee = subst (λ l. 1 ≤ l.addressee) c.letter.view_is c.place_of.ensures.named.0 in
    let below : c.place_of.result < length xs = subst (λ n. c.place_of.result < n) (sym c.self.invariant.0) c.place_of.ensures.within in
    IfOk-weaker c.hear.result _ _ (λ r h. on_ok_weaker r
    (heard_nodes xs c.self.inside.logs.logs c.args.self.now c.self.view_is c.self.invariant.0 c.self.invariant.1 l c.place_of.result at named c.index_mut-node.result.now c.hear.new.node below c.index_mut-node.ensures.value
    c.hear.new.logs.logs c.args.start c.args.end c.requires.join) h) c.hear.ensures.heard

pub returns-clause-stays : goal.returns-clause-stays
returns-clause-stays g c =
    let xs = c.self.inside.list.items in
    let l = c.args.letter.now in
    let at : c.place_of.result ≡ l.addressee - 1 = c.place_of.ensures.place ∙ ap (λ l. l.addressee - 1) c.letter.view_is in
    let named : 1 ≤ l.addressee = subst (λ l. 1 ≤ l.addressee) c.letter.view_is c.place_of.ensures.named.0 in
    let below : c.place_of.result < length xs = subst (λ n. c.place_of.result < n) (sym c.self.invariant.0) c.place_of.ensures.within in
    IfOk-weaker c.hear.result _ _ (λ r u. on_err_weaker r
    (unheard_same xs c.self.inside.logs.logs c.args.self.now c.self.view_is c.self.invariant.0 c.self.invariant.1 l c.place_of.result at named c.index_mut-node.result.now c.hear.new.node below c.index_mut-node.ensures.value c.hear.new.logs.logs) u) c.hear.ensures.stays

pub returns-clause-accepted : goal.returns-clause-accepted
returns-clause-accepted g c =
    let xs = c.self.inside.list.items in
    let l = c.args.letter.now in
    let at : c.place_of.result ≡ l.addressee - 1 = c.place_of.ensures.place ∙ ap (λ l. l.addressee - 1) c.letter.view_is in
    let named : 1 ≤ l.addressee = subst (λ l. 1 ≤ l.addressee) c.letter.view_is c.place_of.ensures.named.0 in
    let below : c.place_of.result < length xs = subst (λ n. c.place_of.result < n) (sym c.self.invariant.0) c.place_of.ensures.within in
    on_err_weaker c.hear.result (λ e. sym (judged_here xs c.self.inside.logs.logs c.args.self.now c.self.view_is c.self.invariant.0 c.self.invariant.1 l c.place_of.result at named c.index_mut-node.result.now c.hear.new.node below c.index_mut-node.ensures.value g.Q.Quorums.system) ∙ e) c.hear.ensures.accepted

pub returns-clause-err : goal.returns-clause-err
returns-clause-err g c =
    let xs = c.self.inside.list.items in
    let l = c.args.letter.now in
    let at : c.place_of.result ≡ l.addressee - 1 = c.place_of.ensures.place ∙ ap (λ l. l.addressee - 1) c.letter.view_is in
    let named : 1 ≤ l.addressee = subst (λ l. 1 ≤ l.addressee) c.letter.view_is c.place_of.ensures.named.0 in
    let below : c.place_of.result < length xs = subst (λ n. c.place_of.result < n) (sym c.self.invariant.0) c.place_of.ensures.within in
    on_err_weaker c.hear.result
    (unheard_same xs c.self.inside.logs.logs c.args.self.now c.self.view_is c.self.invariant.0 c.self.invariant.1 l c.place_of.result at named c.index_mut-node.result.now c.hear.new.node below c.index_mut-node.ensures.value c.hear.new.logs.logs) c.hear.ensures.err

pub returns-clause-grow : goal.returns-clause-grow
returns-clause-grow g c =
    let xs = c.self.inside.list.items in
    let l = c.args.letter.now in
    let ms = c.hear.new.logs.logs in
    let at : c.place_of.result ≡ l.addressee - 1 = c.place_of.ensures.place ∙ ap (λ l. l.addressee - 1) c.letter.view_is in
    let named : 1 ≤ l.addressee = subst (λ l. 1 ≤ l.addressee) c.letter.view_is c.place_of.ensures.named.0 in
    let below : c.place_of.result < length xs = subst (λ n. c.place_of.result < n) (sym c.self.invariant.0) c.place_of.ensures.within in
    either_way c.hear.result c.hear.ensures.heard c.hear.ensures.stays c.hear.ensures.err
    (heard_grow xs c.self.inside.logs.logs c.args.self.now c.self.view_is c.self.invariant.0 c.self.invariant.1 l c.place_of.result at named c.index_mut-node.result.now c.hear.new.node below c.index_mut-node.ensures.value
    ms c.args.start c.args.end c.requires.join)
    (λ u. same_grow c.args.self.now _ (unheard_same xs c.self.inside.logs.logs c.args.self.now c.self.view_is c.self.invariant.0 c.self.invariant.1 l c.place_of.result at named c.index_mut-node.result.now c.hear.new.node below c.index_mut-node.ensures.value ms u))
