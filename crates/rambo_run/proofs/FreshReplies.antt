-- Each counted reply, of a phase or of a collection, was told after its sender had heard of it
use Rattle.std.proofs.Common.{◌≡◌, ℕ, suc, ◌-◌, ◌≤◌, ◌⊎◌, List, length, Some, refl, sym, ap, ◌∙◌, subst, inl, inr, arith}
use Rattle.std.proofs.lemmas.Bool.{cases_lt}
use Rattle.std.specs.FinMap as map
use Rattle.rambo_names.specs.Quorums.{QuorumSystem}
use Rattle.rambo_tag.specs.Tags.{tag_of}
use Rattle.rambo_tag.proofs.TagOrder.{tag_lt-false, TagLe-from_false}
use Rattle.rambo_gc.specs.declared.stage.Stage.{Stage}
use Rattle.rambo_gc.specs.declared.stage.Stage.TheVariants.{First, Second}
use Rattle.rambo_calls.specs.Hearing.{restarted}
use Rattle.rambo_node.specs.Nodes.{NodeState, first_node, heard_from}
use Rattle.rambo_node.specs.Steps.{Step}
use Rattle.rambo_run.specs.Worlds.{WorldState, node_at}
use Rattle.rambo_run.specs.Runs.{run}
use Rattle.rambo_run.specs.Claims.{AtLeast, IsHeard, IsAsked, IsFresh, RepliesAreFresh}
use Rattle.rambo_run.specs.Configurations.{begun, IsFreshAnswer, CollectionRepliesAreFresh}
use Rattle.rambo_run.proofs.Lists.{Member, member_stands, stands_member}
use Rattle.rambo_run.proofs.Turn.{Moments}
use Rattle.rambo_run.proofs.Events.{none_or_some}
use Rattle.rambo_run.proofs.Seen.{named_some}
use Rattle.rambo_run.proofs.Held.{HoldsAll, Fresh, get_or-replicate, heard_of}
use Rattle.rambo_run.proofs.Phases.{Replied, CountedReply, calls_at}
use Rattle.rambo_run.proofs.Collections.{StageAt, CollectionAt, collection_at}
use Rattle.rambo_run.proofs.Sights.{Worlds, Came, at}
use Rattle.rambo_run.proofs.Worlds.{run_of}
use Rattle.rambo_run.proofs.Moments.{moment, worlds, last_moment}
use Rattle.rambo_run.proofs.NodeLists.{node_is, node_stays, nowhere}

pub at_least : {Q : Type 0} (x y : NodeState Q) → HoldsAll x y → AtLeast x y
at_least x y h = record { copies = h.copies; tags = λ key. tag_lt-false (tag_of (map.get y.registers key)) (tag_of (map.get x.registers key)) (h.tags key); floor = h.floor; top = h.top }

pub holds_all : {Q : Type 0} (x y : NodeState Q) → AtLeast x y → HoldsAll x y
holds_all x y h = record { copies = h.copies; tags = λ key. TagLe-from_false (tag_of (map.get y.registers key)) (tag_of (map.get x.registers key)) (h.tags key); floor = h.floor; top = h.top }

module _ {Q : Type 0} (s : QuorumSystem Q) (founders : Q) (world : ℕ → WorldState Q) (all : Worlds s founders world) where
  abbrev then : Moments Q
  then = at s founders world all

  first_heard : (j n : ℕ) → heard_from (first_node s founders j).heard n ≡ 0
  unfolding first_node
  first_heard j n = get_or-replicate 64 (n - 1) 0

  abbrev Replies : ℕ → ℕ → ℕ → ℕ → ℕ → ℕ → Type 0
  Replies n t m j u number = Replied (Came s founders world all) then n t m j u number

  -- who replied is a node
  pub replier_there : (m t u n j number : ℕ) (x : NodeState Q) → node_at (world m) n ≡ Some x → 1 ≤ number → Replies n t m j u number → node_at (world u) j ≡ Some (then u j)
  replier_there m t u n j number x e a h = elim h [
    | inl q ↦ subst (λ j. node_at (world u) j ≡ Some (then u j)) (sym q.0) (node_stays s founders world all m u n x e)
    | inr l ↦ elim (none_or_some (node_at (world u) j)) [
      | inr r ↦ node_stays s founders world all u u j r.0 r.1
      | inl q ↦ absurd (let z : heard_from (then u j).heard n ≡ 0 = ap (λ x. heard_from x.heard n) (nowhere s founders world all u j q) ∙ first_heard j n in omega (arith, z, l.0, a))
    ]
  ]

module _ {Q : Type 0} (s : QuorumSystem Q) (founders : Q) (ss : List (Step Q)) where
  abbrev node : Moments Q
  node m n = at s founders (moment s founders ss) (worlds s founders ss) m n

  came_heard : (m n u j : ℕ) → Came s founders (moment s founders ss) (worlds s founders ss) m n u j → IsHeard s founders ss n j u (node u j)
  unfolding worlds
  came_heard m n u j h = record { active = h.active; sent = h.sent.happens; letter = h.letter; number = h.sent.number; heard_at = m; later = h.later; came = h.comes; content = h.content }

  abbrev Asks : ℕ → ℕ → ℕ → ℕ → ℕ → Type 0
  Asks n number t j u = IsAsked s founders ss n number t j u

  -- who heard a number of n heard it in a letter that n sent since it took it
  asked_before : (n number t u j : ℕ) → ((m : ℕ) → node_at (moment s founders ss m) n ≡ Some (node m n)) → 1 ≤ n → 1 ≤ number → Fresh node n number t → number ≤ heard_from (node u j).heard n → Asks n number t j u
  unfolding came_heard
  asked_before n number t u j there named positive f h =
      let o = heard_of s founders node (run_of s founders (moment s founders ss) (worlds s founders ss)) u j n named in
      let v = o.letter (omega (arith, positive, h)) in
      let number : number ≤ (node o.moment n).number = omega (arith, h, o.was) in
      record { sent_at = o.moment; since = f.by o.moment number; asker = node o.moment n; asker_is = there o.moment; number = number; letter = came_heard v.0 j o.moment n v.2; before = v.1 }

  reply_heard : (m t u n j number : ℕ) → (number ≤ heard_from (node u j).heard n → Asks n number t j u) → Replies s founders (moment s founders ss) (worlds s founders ss) n t m j u number
      → ((j ≡ n) × (u ≡ t)) ⊎ ((number ≤ heard_from (node u j).heard n) × Asks n number t j u × IsHeard s founders ss n j u (node u j))
  reply_heard m t u n j number asks h = elim h [ inl o ↦ inl o | inr r ↦ inr (r.0, asks r.0, came_heard r.1 n u j r.3) ]

  abbrev Counted : ℕ → ℕ → ℕ → ℕ → Type 0
  Counted n t j asked = CountedReply (Came s founders (moment s founders ss) (worlds s founders ss)) node n t (length ss) j asked

  -- a reply to what a node asks since moment t
  fresh_reply : (n : ℕ) (x : NodeState Q) → node_at (run s founders ss) n ≡ Some x → (t asked : ℕ) → (node t n).number ≡ asked → 1 ≤ asked → Fresh node n asked t → (j : ℕ) → Counted n t j asked
      → IsFresh s founders ss n x asked j
  fresh_reply n x e t asked took positive f j r =
      let all = worlds s founders ss in
      let world = moment s founders ss in
      let m : ℕ = length ss in
      let here : node_at (world m) n ≡ Some x = ap (λ w. node_at w n) (last_moment s founders ss) ∙ e in
      let is_x = node_is s founders world all m n x here in
      record {
        began = t;
        told = r.moment;
        order = r.reply.since;
        now = r.reply.before;
        opener = node t n;
        opener_is = node_stays s founders world all m t n x here;
        number = took;
        first = λ u y l h. elim (cases_lt y.number asked) [
          | inl lt ↦ lt
          | inr le ↦ absurd (let b : t ≤ u = f.by u (subst (λ y. asked ≤ y.number) (node_is s founders world all u n y h) le) in omega (arith, b, l))
        ];
        replier = node r.moment j;
        replier_is = replier_there s founders world all m t r.moment n j asked x here positive r.heard;
        heard = reply_heard m t r.moment n j asked (asked_before n asked t r.moment j (λ u. node_stays s founders world all m u n x here) (named_some (world m) n x here) positive f) r.heard;
        holds = at_least (node t n) (node r.moment j) r.reply.told;
        kept = subst (AtLeast (node r.moment j)) (sym is_x) (at_least (node r.moment j) (node m n) r.reply.kept);
      }

  -- the node of a name at the end
  last_node : (n : ℕ) (x : NodeState Q) → node_at (run s founders ss) n ≡ Some x → x ≡ node (length ss) n
  last_node n x e = node_is s founders (moment s founders ss) (worlds s founders ss) (length ss) n x (ap (λ w. node_at w n) (last_moment s founders ss) ∙ e)

-- each reply that a phase counts
pub replies_are_fresh : {Q : Type 0} (s : QuorumSystem Q) → RepliesAreFresh s
unfolding fresh_reply
replies_are_fresh s founders ss n x e c st j i =
    let all = worlds s founders ss in
    let world = moment s founders ss in
    let f = calls_at s founders (at s founders world all) (run_of s founders world all) (length ss) n c (subst (λ x. Member c x.calls) (last_node s founders ss n x e) (member_stands c x.calls st)) in
    let r = f.phase.replies j i in
    record {
      fresh = fresh_reply s founders ss n x e f.began c.phase.number f.phase.took f.phase.positive f.phase.fresh j r.0;
      asks = stands_member (restarted c.phase.number (node s founders ss f.began n).map n c) (node s founders ss f.began n).calls f.opening;
      lo = sym f.phase.lo;
      within = r.1;
    }

-- each reply that a collection counts
pub collection_replies_are_fresh : {Q : Type 0} (s : QuorumSystem Q) → CollectionRepliesAreFresh s
unfolding fresh_reply
collection_replies_are_fresh s founders ss n x e g i j r =
    let all = worlds s founders ss in
    let world = moment s founders ss in
    let o = collection_at s founders (at s founders world all) (run_of s founders world all) (length ss) n g (ap (λ x. x.collection) (sym (last_node s founders ss n x e)) ∙ i) in
    by_stage g.stage refl o
  where
    fresh_in : (t : ℕ) → (node s founders ss t n).collection ≡ Some (begun g) → StageAt (Came s founders (moment s founders ss) (worlds s founders ss)) (node s founders ss) t (length ss) n g.number g.repliers
        → IsFreshAnswer s founders ss n x g j
    fresh_in t a f = record { fresh = fresh_reply s founders ss n x e t g.number f.took f.positive f.fresh j (f.replies j r); asks = a }

    by_stage : (stage : Stage) → g.stage ≡ stage → CollectionAt (Came s founders (moment s founders ss) (worlds s founders ss)) s (node s founders ss) (length ss) n g → IsFreshAnswer s founders ss n x g j
    by_stage First z o = fresh_in o.opened (o.asks z) (o.early z)
    by_stage Second z o = let l = o.late z in fresh_in (suc l.turned) l.asks l.now
