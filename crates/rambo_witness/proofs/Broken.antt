-- A witness shows that a rule is broken
use Rattle.std.proofs.Common.{◌≡◌, ℕ, List, ◌∷◌, ◌++◌, Option, None, Some, refl, ap, ◌∙◌, append_assoc}
use Rattle.std.specs.Option.{IsSomeAnd}
use Rattle.rambo_history.specs.declared.operation.Op.{Op}
use Rattle.rambo_history.specs.declared.event.CallId.{CallId}
use Rattle.rambo_history.specs.declared.event.Event.{Event}
use Rattle.rambo_history.specs.Histories.{call_in}
use Rattle.rambo_atomic.specs.declared.verdict.Rule.{Rule}
use Rattle.rambo_atomic.specs.declared.verdict.Rule.TheVariants.{Missing, Repeated, Stranger, WrongAnswer, OutOfOrder}
use Rattle.rambo_witness.specs.declared.witness.Witness.{Witness}
use Rattle.rambo_witness.specs.Laws.{IsProperOf, NoIsBroken, WitnessShows}
use Rattle.rambo_witness.specs.Witnesses.{Breaks, IsFirstMissing, IsFirstToBreak, IsWitness, Keeps}

-- what stands in a front of an order stands there before the call, and the call behind it
behind-front : {X : Type 0} (order front back a b : List X) (c d : X) → order ≡ front ++ c ∷ back → front ≡ a ++ d ∷ b → order ≡ a ++ d ∷ (b ++ c ∷ back)
behind-front order front back a b c d whole e = whole ∙ ap (λ l. l ++ c ∷ back) e ∙ append_assoc a (d ∷ b) (c ∷ back)

missing-broken : (h : List Event) (key : Option (List ℕ)) (order : List CallId) (w : Witness) → IsFirstMissing h key order w → ¬ (Keeps Missing h key order)
missing-broken h None order w m keeps = m.missing (keeps w.call m.due.1)
missing-broken h (Some key) order w m keeps = m.missing (keeps w.call m.due.0 m.due.1)

some-and : (o : Option Op) (P R : Op → Type 0) → ((op : Op) → P op → R op) → IsSomeAnd o P → IsSomeAnd o R
some-and None P R f s = absurd s
some-and (Some op) P R f s = f op s

pub breaks-broken : (rule : Rule) (h : List Event) (key : Option (List ℕ)) (order front back : List CallId) (w : Witness)
    → order ≡ front ++ w.call ∷ back → Breaks rule h key front w → ¬ (Keeps rule h key order)
breaks-broken Missing h key order front back w whole breaks keeps = breaks
breaks-broken Repeated h key order front back w whole breaks keeps =
    let s = breaks.0 in
    keeps s.0 w.call (s.1 ++ w.call ∷ back) (behind-front order front back s.0 s.1 w.call w.call whole s.2) (s.1, back, refl)
breaks-broken Stranger h None order front back w whole breaks keeps =
    breaks.0 (some-and (call_in h w.call) _ _ (λ op own. (tt, own)) (keeps front w.call back whole))
breaks-broken Stranger h (Some key) order front back w whole breaks keeps = breaks.0 (keeps front w.call back whole)
breaks-broken WrongAnswer h key order front back w whole breaks keeps = breaks.2 (keeps front w.call back whole breaks.0 breaks.1)
breaks-broken OutOfOrder h key order front back w whole breaks keeps =
    let d = breaks.0 in
    let s = breaks.2.0 in
    keeps s.0 d (s.1 ++ w.call ∷ back) (behind-front order front back s.0 s.1 w.call d whole s.2) w.call (s.1, back, refl) breaks.3

pub first-broken : (rule : Rule) (h : List Event) (key : Option (List ℕ)) (order : List CallId) (w : Witness) → IsFirstToBreak rule h key order w → ¬ (Keeps rule h key order)
first-broken rule h key order w f = breaks-broken rule h key order f.front f.back w f.whole f.breaks

pub witness-broken : (rule : Rule) (h : List Event) (key : Option (List ℕ)) (order : List CallId) (w : Witness) → IsWitness rule h key order w → ¬ (Keeps rule h key order)
witness-broken Missing h key order w is = missing-broken h key order w is
witness-broken Repeated h key order w is = first-broken Repeated h key order w is
witness-broken Stranger h key order w is = first-broken Stranger h key order w is
witness-broken WrongAnswer h key order w is = first-broken WrongAnswer h key order w is
witness-broken OutOfOrder h key order w is = first-broken OutOfOrder h key order w is

proper-keeps : (rule : Rule) (h : List Event) (key : Option (List ℕ)) (order : List CallId) → IsProperOf h key order → Keeps rule h key order
proper-keeps Missing h None order p = p.complete
proper-keeps Missing h (Some key) order p = p.complete
proper-keeps Repeated h None order p = p.distinct
proper-keeps Repeated h (Some key) order p = p.distinct
proper-keeps Stranger h None order p = p.no_stranger
proper-keeps Stranger h (Some key) order p = p.no_stranger
proper-keeps WrongAnswer h None order p = p.latest
proper-keeps WrongAnswer h (Some key) order p = p.latest
proper-keeps OutOfOrder h None order p = p.real_time
proper-keeps OutOfOrder h (Some key) order p = p.real_time

pub witness_shows_is : WitnessShows
witness_shows_is rule h key order w is =
    let broken = witness-broken rule h key order w is in (broken, λ proper. broken (proper-keeps rule h key order proper))

pub no_is_broken_is : NoIsBroken
no_is_broken_is Missing h None order says = says
no_is_broken_is Missing h (Some key) order says = says
no_is_broken_is Repeated h None order says = says.1
no_is_broken_is Repeated h (Some key) order says = says.1
no_is_broken_is Stranger h None order says = says.2
no_is_broken_is Stranger h (Some key) order says = says.2
no_is_broken_is WrongAnswer h None order says = says.3
no_is_broken_is WrongAnswer h (Some key) order says = says.3
no_is_broken_is OutOfOrder h None order says = says.4
no_is_broken_is OutOfOrder h (Some key) order says = says.4
