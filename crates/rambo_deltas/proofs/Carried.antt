-- Each base is the greatest heard number that letters of its name carried
use Rattle.std.proofs.Common.{◌≡◌, ℕ, ◌-◌, ◌≤◌, max, if◌then◌else◌, nat_eq, List, [], ◌∷◌, length, refl, sym, ap, ◌∙◌, inl, inr, arith, replicate, eqb-true, eq-eqb, true≢false}
use Rattle.std.proofs.lemmas.List.{length-set, get_or-set_other, get_or-set_same}
use Rattle.rambo_names.specs.Quorums.{QuorumSystem}
use Rattle.rambo_gossip.specs.Letters.{LetterState}
use Rattle.rambo_node.specs.Acts.{Act}
use Rattle.rambo_node.specs.Nodes.{heard_from, raised}
use Rattle.rambo_run.specs.Journals.{journal}
use Rattle.rambo_run.proofs.Held.{get_or-replicate}
use Rattle.rambo_run.proofs.Lists.{Member, pick}
use Rattle.rambo_deltas.specs.Bases.{brought_by, base_in}
use Rattle.rambo_deltas.specs.Deltas.{full_at, BasesAreCarried}
use Rattle.rambo_node.specs.FullNodes.{FullNode, heard_in, bases_after, full_after, fully_replayed, first_full}
use Rattle.rambo_node.specs.Acts as act
use Rattle.rambo_deltas.proofs.Delivered.{delivered}

-- one name's number is raised, and no other's
raised_to : (b : List ℕ) (k j h : ℕ) → 1 ≤ k → 1 ≤ j → j ≤ length b → heard_from (raised b k h) j ≡ max (heard_from b j) (if nat_eq k j then h else 0)
raised_to b k j h one named there = elim (pick (nat_eq k j) h 0) [
  | inl p ↦ (
      let same : k ≡ j = eqb-true k j p.0 in
      let here : heard_from (raised b j h) j ≡ max (heard_from b j) h = get_or-set_same b (j - 1) (max (heard_from b j) h) 0 (omega (arith, named, there)) in
      ap (λ k. heard_from (raised b k h) j) same ∙ here ∙ ap (max (heard_from b j)) (sym p.1)
      )
  | inr p ↦ (
      let apart : k ≡ j → ⊥ = λ e. true≢false (sym (eq-eqb k j e) ∙ p.0) in
      let other : heard_from (raised b k h) j ≡ heard_from b j = get_or-set_other b (k - 1) (j - 1) (max (heard_from b k) h) 0 (λ e. apart (omega (arith, e, one, named))) in
      omega (arith, other, p.1)
      )
]

-- the letters of a list have senders
abbrev HaveSenders : {Q : Type 0} → List (Act Q) → Type 0
HaveSenders {Q} cs = (l : LetterState Q) → Member (act.Hear l) cs → 1 ≤ l.sender

brought : {Q : Type 0} (b : List ℕ) (c : Act Q) (j : ℕ) → 1 ≤ j → j ≤ length b → ((l : LetterState Q) → c ≡ act.Hear l → 1 ≤ l.sender) → heard_from (bases_after b c) j ≡ max (heard_from b j) (brought_by j c)
brought b (act.Hear l) j one there f = raised_to b l.sender j (heard_in l.kind) (f l refl) one there
brought b _ j one there f = omega arith

-- there are as many bases as before
as_many : {Q : Type 0} (b : List ℕ) (c : Act Q) → length (bases_after b c) ≡ length b
as_many b (act.Hear l) = length-set b (l.sender - 1) _
as_many b _ = refl

replayed_bases : {Q : Type 0} (cs : List (Act Q)) (v : FullNode Q) (j : ℕ) → 1 ≤ j → j ≤ length v.bases → HaveSenders cs → heard_from (fully_replayed v cs).bases j ≡ max (heard_from v.bases j) (base_in j cs)
unfolding full_after
replayed_bases [] v j one there f = omega arith
replayed_bases (c ∷ cs) v j one there f =
    let later = replayed_bases cs (full_after v c) j one (omega (arith, there, as_many v.bases c)) (λ l m. f l (inr m)) in
    let now = brought v.bases c j one there (λ l e. f l (inl e)) in
    omega (arith, later, now)

pub bases_are_carried : {Q : Type 0} (s : QuorumSystem Q) → BasesAreCarried s
unfolding full_at
bases_are_carried s founders steps n j named =
    let none : heard_from (replicate 64 0) j ≡ 0 = get_or-replicate 64 (j - 1) 0 in
    let senders : HaveSenders (journal s founders n steps) = λ l i. (delivered s founders steps n l i).there in
    let r = replayed_bases (journal s founders n steps) (first_full s founders n) j named.0 named.1 senders in
    omega (arith, r, none)
