use Rattle.std.proofs.Common.{◌≡◌, Bool, true, false, cond, List, Option, None, Some, refl, sym, ap, ◌∙◌}
use Rattle.std.specs.Map.{lookup}
use Rattle.rambo_history.specs.declared.event.CallId.{CallId}
use Rattle.rambo_history.specs.declared.spot.Spot.{Spot}
use Rattle.rambo_history.specs.Calls.{same_call}
use Rattle.rambo_history.specs.Places.{listed, found, spot_of, called_spot}
use Rattle.rambo_history.proofs.Pushes.{same_call-path}
use Rattle.rambo_history.proofs.call_places.CallPlaces.call.Goals as goal

-- a call that has no spot is put behind the lists
behind : (lists : List (List Spot)) (old new : List (CallId × Spot)) (c : CallId) (s : Spot)
    → found (listed lists c) (lookup (same_call c) old) ≡ None
    → ((q : CallId) → lookup (same_call q) new ≡ cond (same_call c q) (Some s) (lookup (same_call q) old))
    → (q : CallId) → found (listed lists q) (lookup (same_call q) new) ≡ cond (same_call c q) (Some s) (found (listed lists q) (lookup (same_call q) old))
behind lists old new c s none put q =
    ap (found (listed lists q)) (put q) ∙ step (same_call c q) (λ same. ap (λ x. listed lists x) (sym (same_call-path c q same)) ∙ first (listed lists c) none)
  where
    first : (o : Option Spot) → found o (lookup (same_call c) old) ≡ None → o ≡ None
    first None e = refl
    first (Some x) e = cc

    step : (t : Bool) → (t ≡ true → listed lists q ≡ None)
        → found (listed lists q) (cond t (Some s) (lookup (same_call q) old)) ≡ cond t (Some s) (found (listed lists q) (lookup (same_call q) old))
    step true gone = let e = gone refl in rw e refl
    step false gone = refl

pub returns-then-not-push_listed-clause-spots : goal.returns-then-not-push_listed-clause-spots
returns-then-not-push_listed-clause-spots c =
    let id = c.args.id.now in
    let place = c.args.place in
    let entries = c.put_other.new.others.entries in
    λ q. ap (λ l. found (listed l q) (lookup (same_call q) entries)) c.if-not-push_listed.ensures
    ∙ behind c.self.inside.lists.items c.self.inside.others.entries entries id (called_spot place)
    (ap (λ s. spot_of s id) c.self.view_is ∙ c.requires.new) c.put_other.ensures.spots q
    ∙ ap (λ s. cond (same_call id q) (Some (called_spot place)) (spot_of s q)) c.self.view_is
