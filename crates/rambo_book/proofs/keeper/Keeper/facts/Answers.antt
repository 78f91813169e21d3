use Rattle.std.proofs.Common.{◌≡◌, ◌≤◌, ℕ, List, length, Some, All, sym, ap, ◌∙◌, subst}
use Rattle.std.specs.FinMap as copies
use Rattle.rambo_names.specs.Names.{IsName}
use Rattle.rambo_names.specs.Quorums.{QuorumSystem}
use Rattle.rambo_tag.specs.declared.version.Version.{Version}
use Rattle.rambo_node.specs.FullNodes.{FullNode, full}
use Rattle.rambo_node.specs.Nodes.{NodeState, heard_from}
use Rattle.rambo_run.specs.Legal.{IsLegal}
use Rattle.rambo_run.specs.Runs.{run}
use Rattle.rambo_run.specs.Worlds.{node_at}
use Rattle.rambo_deltas.specs.Bases.{IsLastChange}
use Rattle.rambo_deltas.specs.Deltas.{full_at}
use Rattle.rambo_deltas.proofs.Carried.{bases_are_carried}
use Rattle.rambo_deltas.proofs.Stamped.{stamps_are_numbers}
use Rattle.rambo_book.specs.Kept.{AreBasesOf, AreStampsOf, KeeperView, IsMailOf}
use Rattle.rambo_book.specs.Readying.{roomy}
use Rattle.rambo_run.proofs.Lists.{some_inj}
use Rattle.rambo_run.proofs.NodeLists.{nodes_count}
use Rattle.rambo_run.proofs.Replays.{replays}
use Rattle.rambo_book.proofs.Firsts.{is_named}
use Rattle.rambo_book.proofs.keeper.Keeper.facts.Goals as goal

pub returns-clause-legal : goal.returns-clause-legal
returns-clause-legal g c = λ f e. subst (λ (v : KeeperView _). IsLegal g.Q.Quorums.system f v.seen) c.self.view_is (c.self.invariant.legal f e)

pub returns-clause-fits : goal.returns-clause-fits
returns-clause-fits g c = subst (λ (v : KeeperView _). length v.seen ≤ g.J.Terms.capacity) c.self.view_is c.self.invariant.fits

pub returns-clause-node : goal.returns-clause-node
returns-clause-node g c = λ f e. subst (λ (v : KeeperView _). node_at (run g.Q.Quorums.system f v.seen) v.name ≡ Some v.node) c.self.view_is (c.self.invariant.replays f e)

pub returns-clause-tray : goal.returns-clause-tray
returns-clause-tray g c = λ f e. subst (λ (v : KeeperView _). All (IsMailOf (run g.Q.Quorums.system f v.seen) v.name) v.tray) c.self.view_is (c.self.invariant.mail f e)

pub returns-clause-replay : goal.returns-clause-replay
returns-clause-replay g c = λ f e.
    let s = g.Q.Quorums.system in
    let v = c.args.self.now in
    let here = returns-clause-node g c f e in
    some_inj v.node _ (sym here ∙ replays s f v.seen v.name (is_named (run s f v.seen) v.name v.node (nodes_count s f v.seen) here))

-- a keeper's node that is, with what it keeps beside, that of the run
module _ {Q : Type 0} (s : QuorumSystem Q) (f : Q) (v : KeeperView Q) (whole : full_at s f v.seen v.name ≡ full (roomy v)) where
  stamps_of : IsName v.name → AreStampsOf s f v
  stamps_of named =
      subst (λ (x : FullNode Q). (key : List ℕ) (c : Version) → copies.get x.state.registers key ≡ Some c
      → (m : ℕ) × (y : NodeState Q) × IsLastChange s f v.seen v.name key c m y × (copies.get x.stamps key ≡ Some y.number))
      whole (λ key c held. stamps_are_numbers s f v.seen v.name key c named held)

  bases_of : AreBasesOf s f v
  bases_of = λ j is. sym (ap (λ (x : FullNode Q). heard_from x.bases j) whole) ∙ bases_are_carried s f v.seen v.name j is

pub returns-clause-stamps : goal.returns-clause-stamps
returns-clause-stamps g c = λ f e.
    let s = g.Q.Quorums.system in
    let v = c.args.self.now in
    let whole = subst (λ (v : KeeperView _). full_at s f v.seen v.name ≡ full (roomy v)) c.self.view_is (c.self.invariant.full f e) in
    stamps_of s f v whole (is_named (run s f v.seen) v.name v.node (nodes_count s f v.seen) (returns-clause-node g c f e))

pub returns-clause-bases : goal.returns-clause-bases
returns-clause-bases g c = λ f e.
    let s = g.Q.Quorums.system in
    let whole = subst (λ (v : KeeperView _). full_at s f v.seen v.name ≡ full (roomy v)) c.self.view_is (c.self.invariant.full f e) in
    bases_of s f c.args.self.now whole
