-- Only who may be written to is asked
use Rattle.std.proofs.Common.{◌≡◌, ◌≢◌, ℕ, ◌+◌, ◌%◌, max, zero, suc, Bool, true, false, not, ◌&&◌, ◌||◌, cond, if◌then◌else◌, nat_eq, List, [], ◌∷◌, ◌++◌, filter, fold, take, drop, ◌⊎◌, inl, inr, refl, sym, ap, ◌∙◌, eqb-true, eq-eqb}
use Rattle.std.proofs.lemmas.Bool.{true≢false}
use Rattle.std.specs.Cmp.{nat_cmp_total, unsigned_tied}
use Rattle.std.specs.FinSet as set
use Rattle.std.specs.FinSet.{contains-empty, contains-insert, contains-remove, contains-intersection}
use Rattle.std.specs.List.{AllByRecursion}
use Rattle.std.specs.Ordering.{nat_cmp}
use Rattle.rambo_names.specs.Names.{NameSet, names, rising, count_of}
use Rattle.rambo_names.specs.Quorums.{QuorumSystem}
use Rattle.rambo_outbox.specs.declared.asking.Choice.{Choice}
use Rattle.rambo_outbox.specs.declared.asks.Asks.{Asks}
use Rattle.rambo_outbox.specs.declared.asks.Asks.TheVariants.{Nothing, More, First, Again}
use Rattle.rambo_outbox.specs.declared.opened.Opened.{Opened}
use Rattle.rambo_outbox.specs.Asking.{with_next, enough, others, turned, in_turn, those, with_quorum, first_asked}
use Rattle.rambo_outbox.specs.Laws.{AreReached}
use Rattle.rambo_outbox.specs.Outboxes.{OutboxState, OpenedState, seen}
use Rattle.rambo_outbox.specs.Rounds.{choice_of, newly_asked, whom, round_of}
use Rattle.rambo_outbox.specs.Wishes.{asks_of}

-- each name of a list may be written to
abbrev Reach : NameSet → List ℕ → Type 0
Reach reach ns = AllByRecursion (λ n. set.contains reach n ≡ true) ns

-- each name of a set but this one may be written to
abbrev ReachBut : NameSet → ℕ → NameSet → Type 0
ReachBut reach me who = (n : ℕ) → set.contains who n ≡ true → (n ≡ me) ⊎ (set.contains reach n ≡ true)

perhaps : (reach : NameSet) (t : Bool) (n : ℕ) (ns : List ℕ) → (t ≡ true → set.contains reach n ≡ true) → Reach reach ns → Reach reach (cond t (n ∷ ns) ns)
perhaps reach true n ns here rest = (here refl, rest)
perhaps reach false n ns here rest = rest

fewer : (reach : NameSet) (p : ℕ → Bool) (ns : List ℕ) → Reach reach ns → Reach reach (filter p ns)
fewer reach p [] all = tt
fewer reach p (n ∷ ns) all = perhaps reach (p n) n (filter p ns) (λ h. all.0) (fewer reach p ns all.1)

both : (reach : NameSet) (ns ms : List ℕ) → Reach reach ns → Reach reach ms → Reach reach (ns ++ ms)
both reach [] ms left right = right
both reach (n ∷ ns) ms left right = (left.0, both reach ns ms left.1 right)

first_ones : (reach : NameSet) (k : ℕ) (ns : List ℕ) → Reach reach ns → Reach reach (take k ns)
first_ones reach zero ns all = tt
first_ones reach (suc k) [] all = tt
first_ones reach (suc k) (n ∷ ns) all = (all.0, first_ones reach k ns all.1)

other_ones : (reach : NameSet) (k : ℕ) (ns : List ℕ) → Reach reach ns → Reach reach (drop k ns)
other_ones reach zero ns all = all
other_ones reach (suc k) [] all = tt
other_ones reach (suc k) (n ∷ ns) all = other_ones reach k ns all.1

second : (a b : Bool) → (a && b) ≡ true → b ≡ true
second true b h = h
second false b h = cc

-- members that may be written to
chosen : (reach members : NameSet) (ns : List ℕ) → Reach reach (filter (set.contains (set.intersection members reach)) ns)
chosen reach members [] = tt
chosen reach members (n ∷ ns) =
    perhaps reach (set.contains (set.intersection members reach) n) n (filter (set.contains (set.intersection members reach)) ns)
    (λ h. second (set.contains members n) (set.contains reach n) (sym (contains-intersection nat_cmp_total members reach n) ∙ h))
    (chosen reach members ns)

names_reach : (reach members : NameSet) → Reach reach (names (set.intersection members reach))
unfolding names
names_reach reach members = chosen reach members (rising 64 1)

either : (a b : Bool) → (a || b) ≡ true → (a ≡ true) ⊎ (b ≡ true)
either true b h = inl refl
either false b h = inr h

one_more : (reach : NameSet) (me : ℕ) (who : NameSet) (n : ℕ) (t : Bool) → set.contains reach n ≡ true → ReachBut reach me who → ReachBut reach me (if t then who else set.insert who n)
one_more reach me who n true here all = all
one_more reach me who n false here all = λ m h.
    elim (either (nat_eq m n) (set.contains who m) (ap (λ t. t || set.contains who m) (sym (unsigned_tied m n)) ∙ sym (contains-insert nat_cmp_total who n m) ∙ h)) [
      | inl is ↦ inr (ap (set.contains reach) (eqb-true m n is) ∙ here)
      | inr is ↦ all m is
    ]

enough_reach : {Q : Type 0} (s : QuorumSystem Q) (q : Q) (reach : NameSet) (me : ℕ) (ns : List ℕ) (who : NameSet) → Reach reach ns → ReachBut reach me who → ReachBut reach me (enough s q who ns)
enough_reach s q reach me [] who all but = but
enough_reach s q reach me (n ∷ ns) who all but =
    enough_reach s q reach me ns (with_next s q who n) all.1 (one_more reach me who n (s.is_quorum q who) all.0 but)

in_turn_reach : {Q : Type 0} (s : QuorumSystem Q) (c : Choice) (q : Q) → Reach c.reach (in_turn s c q)
in_turn_reach s c q =
    let all = names_reach c.reach (s.members q) in
    let ns = names (set.intersection (s.members q) c.reach) in
    let place : ℕ = c.turn % max 1 (count_of (set.intersection (s.members q) c.reach)) in
    both c.reach (drop place ns) (take place ns) (other_ones c.reach place ns all) (first_ones c.reach place ns all)

quorum_reach : {Q : Type 0} (s : QuorumSystem Q) (c : Choice) (who : NameSet) (q : Q) → ReachBut c.reach c.me who → ReachBut c.reach c.me (with_quorum s c who q)
quorum_reach s c who q but =
    let all = in_turn_reach s c q in
    enough_reach s q c.reach c.me _ _ (fewer c.reach _ (in_turn s c q) all) (enough_reach s q c.reach c.me _ who (fewer c.reach _ (in_turn s c q) all) but)

quorums_reach : {Q : Type 0} (s : QuorumSystem Q) (c : Choice) (qs : List Q) (who : NameSet) → ReachBut c.reach c.me who → ReachBut c.reach c.me (fold (with_quorum s c) who qs)
quorums_reach s c [] who but = but
quorums_reach s c (q ∷ qs) who but = quorums_reach s c qs (with_quorum s c who q) (quorum_reach s c who q but)

abbrev none : NameSet
none = set.empty

nobody : (n : ℕ) → set.contains none n ≡ true → ⊥
nobody n h = true≢false (sym h ∙ contains-empty nat_cmp n)

only_me : (reach : NameSet) (me : ℕ) → ReachBut reach me (set.insert none me)
only_me reach me n h =
    elim (either (nat_eq n me) (set.contains none n) (ap (λ t. t || set.contains none n) (sym (unsigned_tied n me)) ∙ sym (contains-insert nat_cmp_total none me n) ∙ h)) [
      | inl is ↦ inl (eqb-true n me is)
      | inr is ↦ absurd (nobody n is)
    ]

not_both : (a b : Bool) → (not a && b) ≡ true → (a ≡ false) × (b ≡ true)
not_both true b h = cc
not_both false b h = (refl, h)

-- what is in a set without a name
left_in : (who : NameSet) (me n : ℕ) → set.contains (set.remove who me) n ≡ true → (nat_eq n me ≡ false) × (set.contains who n ≡ true)
left_in who me n h = not_both (nat_eq n me) (set.contains who n) (ap (λ t. not t && set.contains who n) (sym (unsigned_tied n me)) ∙ sym (contains-remove nat_cmp_total who me n) ∙ h)

differs : (n me : ℕ) → nat_eq n me ≡ false → n ≢ me
differs n me h same = cc (eq-eqb n me same)

first_reach : {Q : Type 0} (s : QuorumSystem Q) (c : Choice) (qs : List Q) (n : ℕ) → set.contains (first_asked s c qs) n ≡ true → set.contains c.reach n ≡ true
first_reach s c qs n h =
    let parts = left_in (fold (with_quorum s c) (set.insert none c.me) qs) c.me n h in
    elim (quorums_reach s c qs (set.insert none c.me) (only_me c.reach c.me) n parts.1) [
      | inl is ↦ absurd (differs n c.me parts.0 is)
      | inr is ↦ is
    ]

new_reach : {Q : Type 0} (s : QuorumSystem Q) (b : OutboxState) (o : OpenedState Q) (joins : Bool) (n : ℕ) → set.contains (if joins then o.reach else first_asked s (choice_of b o) o.configs) n ≡ true → set.contains o.reach n ≡ true
new_reach s b o true n h = h
new_reach s b o false n h = first_reach s (choice_of b o) o.configs n h

whom_reach : {Q : Type 0} (s : QuorumSystem Q) (b : OutboxState) (o : OpenedState Q) (a : Asks) (n : ℕ) → set.contains (whom s b o a) n ≡ true → set.contains o.reach n ≡ true
whom_reach s b o Nothing n h = absurd (nobody n h)
whom_reach s b o More n h = new_reach s b o o.joins n h
whom_reach s b o First n h = new_reach s b o o.joins n h
whom_reach s b o Again n h = h

told : {Q : Type 0} (o : Opened Q) (n : ℕ) → set.contains (set.remove o.reach o.me) n ≡ true → (set.contains o.reach n ≡ true) × (n ≢ o.me)
told o n h = let parts = left_in o.reach o.me n h in (parts.1, differs n o.me parts.0)

pub only_reached : {Q : Type 0} (s : QuorumSystem Q) (b : OutboxState) (o : Opened Q) (now : ℕ) → AreReached o (round_of s b (seen o) now).asked × AreReached o (round_of s b (seen o) now).owed
only_reached s b o now = (
  λ n h. told o n (whom_reach s b (seen o) (asks_of b (seen o) now) n h),
  λ n h. told o n (second (set.contains b.owes n) (set.contains (set.remove o.reach o.me) n) (sym (contains-intersection nat_cmp_total b.owes (set.remove o.reach o.me) n) ∙ h)),
)
