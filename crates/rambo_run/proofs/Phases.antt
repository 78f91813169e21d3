-- Every open call has a beginning, and what it counted was told since then
use Rattle.std.proofs.Common.{◌≡◌, ℕ, zero, suc, ◌+◌, ◌<◌, ◌≤◌, ◌⊎◌, Bool, true, false, not, ◌||◌, if◌then◌else◌, nat_eq, nat_le, List, [], ◌∷◌, refl, sym, ap, ◌∙◌, subst, inl, inr, ⊎_elim, arith, eqb-true, leb-true, true≢false}
use Rattle.std.proofs.lemmas.Bool.{cases_lt}
use Rattle.std.specs.Cmp.{nat_cmp_total, unsigned_tied}
use Rattle.std.specs.Ordering.{nat_cmp, eq_by_cmp}
use Rattle.std.specs.FinSet as set
use Rattle.std.specs.FinMap as map
use Rattle.rambo_names.specs.Quorums.{QuorumSystem}
use Rattle.rambo_tag.specs.Tags.{tag_of}
use Rattle.rambo_tag.proofs.TagOrder.{TagLe, TagLe-refl, TagLe-trans}
use Rattle.rambo_tag.proofs.Joins.{get-put_same}
use Rattle.rambo_history.specs.declared.operation.Op.{Op}
use Rattle.rambo_history.specs.declared.operation.Op.TheVariants as op
use Rattle.rambo_history.specs.Calls.{key_of}
use Rattle.rambo_config_map.specs.Rows.{row_at}
use Rattle.rambo_config_map.specs.Maps.{MapState, end_of}
use Rattle.rambo_config_map.specs.MapLaws.{active_kept}
use Rattle.rambo_phase.specs.Phases.{PhaseState, only, started, above, fits, counted}
use Rattle.rambo_phase.specs.PhaseLaws.{counted_old, counted_new, counted_end, counted_reply as counts_reply}
use Rattle.rambo_calls.specs.declared.stage.Stage.TheVariants.{Query, Propagation}
use Rattle.rambo_calls.specs.Calls.{CallState, propagates, kept_in}
use Rattle.rambo_node.specs.Nodes.{NodeState, first_node, heard_from}
use Rattle.rambo_node.specs.Letters.{gossip_for}
use Rattle.rambo_calls.specs.Hearing.{has_gap, any_gap, restarted, heard_call}
use Rattle.rambo_node.specs.Hearing.{heard_gossip}
use Rattle.rambo_node.specs.Operations.{called, taken, with_copy, query_answered, call_closed, called_again}
use Rattle.rambo_run.proofs.Lists.{pick, Member, member_more, member_map, member_put, member_out}
use Rattle.rambo_run.proofs.Turn.{Moments, Telling, Turn, stays, knows, calls, hears, queried, answers, agains, alters, Run}
use Rattle.rambo_run.proofs.Altering.{altered_rest}
use Rattle.rambo_run.proofs.Places.{HeldConfig, held_in}
use Rattle.rambo_run.proofs.Numbers.{Numbered, numbered_at}
use Rattle.rambo_run.proofs.Held.{HoldsAll, up, made_up, names, Fresh, fresh, Reply, own_reply, later_reply, counted_reply, active, hear_right}

-- what j told at moment u, when it had heard this number of n, came to n in a step before moment m
abbrev pub Heard : {Q : Type 0} → Telling → Moments Q → ℕ → ℕ → ℕ → ℕ → ℕ → Type 0
Heard T at n m j u number = (number ≤ heard_from (at u j).heard n) × (v : ℕ) × (v < m) × T v n u j

-- or is told by n itself when its phase begins, at moment t
abbrev pub Replied : {Q : Type 0} → Telling → Moments Q → ℕ → ℕ → ℕ → ℕ → ℕ → ℕ → Type 0
Replied T at n t m j u number = ((j ≡ n) × (u ≡ t)) ⊎ Heard T at n m j u number

pub later_heard : {Q : Type 0} (T : Telling) (at : Moments Q) (n t m k j u number : ℕ) → m ≤ k → Replied T at n t m j u number → Replied T at n t k j u number
later_heard T at n t m k j u number l h = ⊎_elim inl (λ r. inr (r.0, r.1, omega (arith, r.2, l), r.3)) h

-- a counted reply
pub record CountedReply {Q : Type 0} (T : Telling) (at : Moments Q) (n t m j number : ℕ) : Type 0 where
  pub moment : ℕ
  pub reply : Reply at n t m j moment
  pub heard : Replied T at n t m j moment number

-- a node's own reply, as a phase or a stage of a collection begins
abbrev pub own_counted : {Q : Type 0} {T : Telling} (s : QuorumSystem Q) (founders : Q) (at : Moments Q) → Run s T founders at → (n t number : ℕ) → CountedReply T at n t t n number
own_counted s founders at run n t number = record { moment = t; reply = own_reply s founders at run n t t (omega arith); heard = inl (refl, refl) }

-- moments pass
abbrev pub later_counted : {Q : Type 0} {T : Telling} (s : QuorumSystem Q) (founders : Q) (at : Moments Q) → Run s T founders at → (n t m k j number : ℕ) → m ≤ k
    → CountedReply T at n t m j number → CountedReply T at n t k j number
later_counted {T = T} s founders at run n t m k j number l r =
    record { moment = r.moment; reply = later_reply s founders at run n t m k j r.moment l r.reply; heard = later_heard T at n t m k j r.moment number l r.heard }

-- a letter is counted
abbrev pub new_counted : {Q : Type 0} {T : Telling} (s : QuorumSystem Q) (founders : Q) (at : Moments Q) → Run s T founders at → (n number t m j u : ℕ) → 1 ≤ n → Fresh at n number t → u ≤ m
    → number ≤ heard_from (at u j).heard n → HoldsAll (at u j) (at (suc m) n) → T m n u j → CountedReply T at n t (suc m) j number
new_counted s founders at run n number t m j u a f h c k came =
    record { moment = u; reply = counted_reply s founders at run n number t m j u a f h c k; heard = inr (c, m, omega arith, came) }

-- the phase of n that began at moment t, as it is at moment m: each of its places has a configuration that was held, and
-- who replied knew of no place above them
pub record PhaseAt {Q : Type 0} (T : Telling) (at : Moments Q) (t m n : ℕ) (p : PhaseState Q) : Type 0 where
  pub before : t ≤ m
  pub took : (at t n).number ≡ p.number
  pub positive : 1 ≤ p.number
  pub fresh : Fresh at n p.number t
  pub lo : (at t n).map.floor ≡ p.lo
  pub ordered : p.lo < above p
  pub replies : (j : ℕ) → set.contains p.repliers j ≡ true → (r : CountedReply T at n t m j p.number) × (end_of (at r.moment j).map ≤ above p)
  pub held : (place : ℕ) → p.lo ≤ place → place < above p → HeldConfig at place (row_at p.lo p.configs place)

-- the call c of node n at moment m
pub record CallAt {Q : Type 0} (T : Telling) (at : Moments Q) (m n : ℕ) (c : CallState Q) : Type 0 where
  pub began : ℕ
  pub phase : PhaseAt T at began m n c.phase
  pub opening : Member (restarted c.phase.number (at began n).map n c) (at began n).calls
  pub since : c.number ≤ (at began n).made
  pub kept : propagates c.stage ≡ true → TagLe (tag_of (kept_in c.stage)) (tag_of (map.get (at began n).registers (key_of c.op)))

-- the copy that a call keeps is held from then on
pub keeps : {Q : Type 0} (x : NodeState Q) (o : Op) → TagLe (tag_of (taken x o)) (tag_of (map.get (with_copy x.registers o (taken x o)) (key_of o)))
keeps x (op.Get key) = TagLe-refl (tag_of (map.get x.registers key))
keeps x (op.Set key value) =
    let v = taken x (op.Set key value) in
    subst (λ c. TagLe (tag_of v) (tag_of c)) (sym (get-put_same x.registers key _)) (TagLe-refl (tag_of v))

or_none : (b : Bool) → (b || false) ≡ b
or_none true = refl
or_none false = refl

pub only_one : (n j : ℕ) → set.contains (only n) j ≡ true → j ≡ n
only_one n j e =
    let both : (eq_by_cmp nat_cmp j n || set.contains (set.empty {R = nat_cmp}) j) ≡ (nat_eq j n || false) = λ i. unsigned_tied j n i || set.contains-empty nat_cmp j i in
    eqb-true j n (sym (or_none (nat_eq j n)) ∙ sym both ∙ sym (set.contains-insert nat_cmp_total set.empty n j) ∙ e)

gap_any : {Q : Type 0} (heard : ℕ) (m : MapState Q) (c : CallState Q) (cs : List (CallState Q)) → Member c cs → has_gap heard m c ≡ true → any_gap heard m cs ≡ true
gap_any heard m c [] h g = absurd h
gap_any heard m c (d ∷ cs) h g =
    elim (pick (has_gap heard m d) true (any_gap heard m cs)) [
      | inl p ↦ p.1
      | inr p ↦ p.1 ∙ elim h [ inl e ↦ absurd (true≢false (sym (subst (λ z. has_gap heard m z ≡ true) (sym e) g) ∙ p.0)) | inr k ↦ gap_any heard m c cs k g ]
    ]

pub or_second : (a b : Bool) → a ≡ false → (a || b) ≡ true → b ≡ true
or_second true b e h = absurd (true≢false e)
or_second false b e h = h

module _ {Q : Type 0} {T : Telling} (s : QuorumSystem Q) (founders : Q) (at : Moments Q) (run : Run s T founders at) where
  abbrev numbered : (m n : ℕ) → Numbered (at m n)
  numbered m n = numbered_at s founders at run m n

  -- a phase of a node that begins with its map
  begins_at : (m n number : ℕ) → (at (suc m) n).number ≡ number → (at m n).number < number → PhaseAt T at (suc m) (suc m) n (started number (at (suc m) n).map n)
  begins_at m n number k h =
      let x = at (suc m) n in
      record {
        before = omega arith;
        took = k;
        positive = omega (arith, h);
        fresh = fresh s founders at run m n number h;
        lo = refl;
        ordered = omega (arith, active s founders at run (suc m) n);
        replies = λ j i. subst (λ j. (r : CountedReply T at n (suc m) (suc m) j number) × (end_of (at r.moment j).map ≤ end_of x.map)) (sym (only_one n j i))
            (own_counted s founders at run n (suc m) number, omega arith);
        held = λ place l u. subst (HeldConfig at place) (active_kept x.map place l) (held_in at (suc m) n place l u);
      }

  -- a phase of a node that begins in this step
  begins : (m n number : ℕ) (p : MapState Q) (name : ℕ) → (at (suc m) n).map ≡ p → name ≡ n → (at (suc m) n).number ≡ number → (at m n).number < number
      → PhaseAt T at (suc m) (suc m) n (started number p name)
  begins m n number p name e f k h =
      subst (λ p. PhaseAt T at (suc m) (suc m) n (started number p name)) e (subst (λ j. PhaseAt T at (suc m) (suc m) n (started number (at (suc m) n).map j)) (sym f) (begins_at m n number k h))

  -- a moment passes
  lasts : (t m n : ℕ) (p : PhaseState Q) → PhaseAt T at t m n p → PhaseAt T at t (suc m) n p
  lasts t m n p f = record {
    before = omega (arith, f.before);
    took = f.took;
    positive = f.positive;
    fresh = f.fresh;
    lo = f.lo;
    ordered = f.ordered;
    replies = λ j h. let r = f.replies j h in (later_counted s founders at run n t m (suc m) j p.number (omega arith) r.0, r.1);
    held = f.held;
  }

  call_lasts : (m n : ℕ) (c : CallState Q) → CallAt T at m n c → CallAt T at (suc m) n c
  call_lasts m n c f = record { began = f.began; phase = lasts f.began m n c.phase f.phase; opening = f.opening; since = f.since; kept = f.kept }

  -- the places that a phase has once a letter is counted
  counted_held : (t m n : ℕ) (p : PhaseState Q) → PhaseAt T at t m n p → (u j : ℕ) → (at u j).map.floor ≤ above p → (place : ℕ) → p.lo ≤ place → place < above (counted p (at u j).map j)
      → HeldConfig at place (row_at p.lo (counted p (at u j).map j).configs place)
  counted_held t m n p f u j b place l h =
      let q = (at u j).map in
      elim (cases_lt place (above p)) [
        | inl a ↦ subst (HeldConfig at place) (sym (counted_old p q j place a l)) (f.held place l a)
        | inr a ↦ subst (HeldConfig at place) (active_kept q place (omega (arith, a, b)) ∙ sym (counted_new p q j place a b))
            (held_in at u j place (omega (arith, a, b)) (omega (arith, h, a, counted_end p q j b)))
      ]

  -- a letter is counted
  counts : (t m n : ℕ) (p : PhaseState Q) → PhaseAt T at t m n p → (u j : ℕ) → u ≤ m → 1 ≤ n → p.number ≤ heard_from (at u j).heard n → fits p (at u j).map ≡ true → HoldsAll (at u j) (at (suc m) n) → T m n u j
      → PhaseAt T at t (suc m) n (counted p (at u j).map j)
  counts t m n p f u j h a c b k came =
      let floor : (at u j).map.floor ≤ above p = leb-true (at u j).map.floor (above p) b in
      let law = counts_reply p (at u j).map j floor in
      let ends = counted_end p (at u j).map j floor in
      record {
        before = omega (arith, f.before);
        took = f.took;
        positive = f.positive;
        fresh = f.fresh;
        lo = f.lo;
        ordered = omega (arith, f.ordered, ends);
        replies = λ i r. elim (pick (nat_eq i j) true (set.contains p.repliers i)) [
          | inl e ↦ subst (λ i. (r : CountedReply T at n t (suc m) i p.number) × (end_of (at r.moment i).map ≤ above (counted p (at u j).map j))) (sym (eqb-true i j e.0))
              (new_counted s founders at run n p.number t m j u a f.fresh h c k came, omega (arith, ends))
          | inr e ↦ (let o = f.replies i (or_second (nat_eq i j) (set.contains p.repliers i) e.0 (sym (law.repliers i) ∙ r)) in
              (later_counted s founders at run n t m (suc m) i p.number (omega arith) o.0, omega (arith, ends, o.1)))
        ];
        held = λ place l v. counted_held t m n p f u j floor place l v;
      }

  -- the call of a phase that begins in this step
  opens_with : (m n number : ℕ) (p : MapState Q) (name : ℕ) (c : CallState Q) → (at (suc m) n).map ≡ p → name ≡ n → Member (restarted number p name c) (at (suc m) n).calls
      → Member (restarted number (at (suc m) n).map n c) (at (suc m) n).calls
  opens_with m n number p name c e f i = subst (λ p. Member (restarted number p n c) (at (suc m) n).calls) (sym e) (subst (λ k. Member (restarted number p k c) (at (suc m) n).calls) f i)

  -- a call goes on in a phase that begins in this step
  goes_on : (m n number : ℕ) (p : MapState Q) (name : ℕ) (c : CallState Q) → (at (suc m) n).map ≡ p → name ≡ n → (at (suc m) n).number ≡ number → (at m n).number < number → Member (restarted number p name c) (at (suc m) n).calls → CallAt T at m n c
      → CallAt T at (suc m) n (restarted number p name c)
  goes_on m n number p name c e f k h i o = record {
    began = suc m;
    phase = begins m n number p name e f k h;
    opening = opens_with m n number p name c e f i;
    since = omega (arith, o.since, made_up s founders at run o.began (suc m) n (omega (arith, o.phase.before)));
    kept = λ a. TagLe-trans (tag_of (kept_in c.stage)) (tag_of (map.get (at o.began n).registers (key_of c.op))) (tag_of (map.get (at (suc m) n).registers (key_of c.op))) (o.kept a)
        ((up s founders at run o.began (suc m) n (omega (arith, o.phase.before))).tags (key_of c.op));
  }

  heard_on : (m n u j number : ℕ) (merged : MapState Q) (name : ℕ) (d : CallState Q) → u ≤ m → 1 ≤ n → T m n u j → CallAt T at m n d
      → (has_gap (heard_from (at u j).heard n) (at u j).map d ≡ true → (at m n).number < number)
      → (at (suc m) n).map ≡ merged → name ≡ n → (at (suc m) n).number ≡ number → HoldsAll (at u j) (at (suc m) n)
      → Member (heard_call (heard_from (at u j).heard n) j (at u j).map number merged name d) (at (suc m) n).calls
      → CallAt T at (suc m) n (heard_call (heard_from (at u j).heard n) j (at u j).map number merged name d)
  heard_on m n u j number merged name d h w came f grown e nm k a i =
      let there = (at u j).map in
      let heard : ℕ = heard_from (at u j).heard n in
      let with_phase : PhaseState Q → CallState Q = λ p. record { number = d.number; op = d.op; stage = d.stage; phase = p } in
      elim (pick (nat_le d.phase.number heard) (if fits d.phase there then counted d.phase there j else started number merged name) d.phase) [
        | inl p ↦ elim (pick (fits d.phase there) (counted d.phase there j) (started number merged name)) [
          | inl q ↦ subst (λ p. CallAt T at (suc m) n (with_phase p)) (sym (p.1 ∙ q.1))
              (record { began = f.began; phase = counts f.began m n d.phase f.phase u j h w (leb-true d.phase.number heard p.0) q.0 a came; opening = f.opening; since = f.since; kept = f.kept })
          | inr q ↦ subst (λ p. CallAt T at (suc m) n (with_phase p)) (sym (p.1 ∙ q.1))
              (goes_on m n number merged name d e nm k (grown (elim (pick (nat_le d.phase.number heard) (not (fits d.phase there)) false) [ inl v ↦ v.1 ∙ ap not q.0 | inr v ↦ absurd (true≢false (sym p.0 ∙ v.0)) ]))
              (subst (λ p. Member (with_phase p) (at (suc m) n).calls) (p.1 ∙ q.1) i) f)
        ]
        | inr p ↦ subst (λ p. CallAt T at (suc m) n (with_phase p)) (sym p.1) (call_lasts m n d f)
      ]

  -- each open call of a node is so
  abbrev pub AllAt : ℕ → ℕ → Type 0
  AllAt m n = (c : CallState Q) → Member c (at m n).calls → CallAt T at m n c

  hears_on : (m n u j : ℕ) → u ≤ m → 1 ≤ n → T m n u j → AllAt m n → at (suc m) n ≡ heard_gossip (at m n) j (gossip_for (at u j) n) → AllAt (suc m) n
  unfolding heard_gossip
  hears_on m n u j h w came all e c i =
      let x = at m n in
      let g = gossip_for (at u j) n in
      let y = heard_gossip x j g in
      let r = member_map (heard_call g.heard j g.map y.number y.map x.name) c x.calls (subst (λ z. Member c z.calls) e i) in
      let d = r.0 in
      let grown : has_gap g.heard g.map d ≡ true → x.number < y.number =
      λ v. elim (pick (any_gap g.heard g.map x.calls) (suc x.number) x.number) [ inl p ↦ omega (arith, p.1) | inr p ↦ absurd (true≢false (sym (gap_any g.heard g.map d x.calls r.1 v) ∙ p.0)) ] in
      subst (CallAt T at (suc m) n) r.2
      (heard_on m n u j y.number y.map x.name d h w came (all d r.1) grown (ap (λ z. z.map) e) (names s founders at run m n) (ap (λ z. z.number) e)
      (subst (HoldsAll (at u j)) (sym e) (hear_right x j n (at u j) (active s founders at run m n) (active s founders at run u j)))
      (subst (λ c. Member c (at (suc m) n).calls) (sym r.2) i))

  calls_on : (m n : ℕ) → AllAt m n → Turn s T at m n (at m n) (at (suc m) n) → AllAt (suc m) n
  unfolding called query_answered call_closed called_again
  calls_on m n all (stays e) c i = call_lasts m n c (all c (subst (λ z. Member c z.calls) e i))
  calls_on m n all (knows st known e) c i = call_lasts m n c (all c (subst (λ z. Member c z.calls) e i))
  calls_on m n all (calls o e) c i =
      elim (member_more c _ (at m n).calls (subst (λ z. Member c z.calls) e i)) [
        | inl k ↦ call_lasts m n c (all c k)
        | inr r ↦ subst (CallAt T at (suc m) n) r (record {
          began = suc m;
          phase = begins m n ((at m n).number + 1) (at m n).map (at m n).name (ap (λ z. z.map) e) (names s founders at run m n) (ap (λ z. z.number) e) (omega arith);
          opening = opens_with m n ((at m n).number + 1) (at m n).map (at m n).name (record { number = (at m n).made + 1; op = o; stage = Query; phase = started ((at m n).number + 1) (at m n).map (at m n).name }) (ap (λ z. z.map) e) (names s founders at run m n) (subst (λ c. Member c (at (suc m) n).calls) (sym r) i);
          since = omega (arith, ap (λ z. z.made) e);
          kept = λ f. absurd (true≢false (sym f));
        })
      ]
  calls_on m n all (hears u j h b k t e) c i = hears_on m n u j h k t all e c i
  calls_on m n all (queried d b p h e) c i =
      elim (member_put d.number _ c (at m n).calls (numbered m n).single (subst (λ z. Member c z.calls) e i)) [
        | inl o ↦ call_lasts m n c (all c o.0)
        | inr r ↦ subst (CallAt T at (suc m) n) r (record {
          began = suc m;
          phase = begins m n ((at m n).number + 1) (at m n).map (at m n).name (ap (λ z. z.map) e) (names s founders at run m n) (ap (λ z. z.number) e) (omega arith);
          opening = opens_with m n ((at m n).number + 1) (at m n).map (at m n).name (record { number = d.number; op = d.op; stage = Propagation (taken (at m n) d.op); phase = started ((at m n).number + 1) (at m n).map (at m n).name })
              (ap (λ z. z.map) e) (names s founders at run m n) (subst (λ c. Member c (at (suc m) n).calls) (sym r) i);
          since = (let o = all d b in omega (arith, o.since, made_up s founders at run o.began (suc m) n (omega (arith, o.phase.before))));
          kept = λ f. subst (λ z. TagLe (tag_of (taken (at m n) d.op)) (tag_of (map.get z.registers (key_of d.op)))) (sym e) (keeps (at m n) d.op);
        })
      ]
  calls_on m n all (answers d b p h e) c i = call_lasts m n c (all c (member_out d.number c (at m n).calls (numbered m n).single (subst (λ z. Member c z.calls) e i)).0)
  calls_on m n all (agains d b e) c i =
      elim (member_put d.number _ c (at m n).calls (numbered m n).single (subst (λ z. Member c z.calls) e i)) [
        | inl o ↦ call_lasts m n c (all c o.0)
        | inr r ↦ subst (CallAt T at (suc m) n) r
            (goes_on m n ((at m n).number + 1) (at m n).map (at m n).name d (ap (λ z. z.map) e) (names s founders at run m n) (ap (λ z. z.number) e) (omega arith)
            (subst (λ c. Member c (at (suc m) n).calls) (sym r) i) (all d b))
      ]
  calls_on m n all (alters a) c i = call_lasts m n c (all c (subst (Member c) (altered_rest s (at m n) (at (suc m) n) a).calls i))

  -- each open call's phase has its beginning, and its replies were told since then
  pub calls_at : (m n : ℕ) → AllAt m n
  unfolding first_node
  calls_at zero n = λ c i. absurd (subst (λ x. Member c x.calls) (run.first n) i)
  calls_at (suc m) n = calls_on m n (calls_at m n) (run.turn m n)
