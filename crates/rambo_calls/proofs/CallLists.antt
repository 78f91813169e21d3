-- Lists of open calls
use Rattle.std.proofs.Common.{◌≡◌, ℕ, zero, suc, ◌+◌, ◌≤◌, ◌<◌, Bool, true, false, if◌then◌else◌, nat_le, List, [], ◌∷◌, ◌++◌, map, take, drop, length, slice_get, slice_set, get_or, refl, sym, ap, ◌∙◌, subst, arith}
use Rattle.std.proofs.lemmas.Bool.{true≢false, false≢true}
use Rattle.std.proofs.lemmas.Option.{slice_get-map, slice_get-get_or, slice_get_past}
use Rattle.std.specs.List.{remove}
use Rattle.std.specs.Option.{option_map}
use Rattle.std.proofs.lemmas.List.{map-set}
use Rattle.indexmap.proofs.SetLemmas.{map-remove}
use Rattle.rambo_config_map.specs.Maps.{MapState}
use Rattle.rambo_phase.specs.Phases.{PhaseState, fits, counted, started, after_letter, heard_as, needed}
use Rattle.rambo_phase.specs.declared.heard.Heard.{Heard}
use Rattle.rambo_phase.specs.declared.heard.Heard.TheVariants as heard
use Rattle.rambo_calls.specs.declared.open_call.OpenCall.{OpenCall}
use Rattle.rambo_calls.specs.Calls.{CallState}
use Rattle.rambo_calls.specs.Hearing.{heard_phase}
use Rattle.rambo_calls.specs.Kept.{call_of, calls_of, with_call, IsRoomy}

-- the three kinds of letters, by whether it is a reply and whether its map fits
abbrev kind_of : Bool → Bool → Heard
kind_of reply fitting = if reply then (if fitting then heard.Counted else heard.Restart) else heard.Old

abbrev is_restart : Heard → Bool
is_restart heard.Counted = false
is_restart heard.Old = false
is_restart heard.Restart = true

restarts : {A : Type 0} (x y z : A) (reply fitting : Bool) → is_restart (kind_of reply fitting) ≡ true → (if reply then (if fitting then x else y) else z) ≡ y
restarts x y z true true e = absurd (false≢true e)
restarts x y z true false e = refl
restarts x y z false fitting e = absurd (false≢true e)

stays : {A : Type 0} (x y z : A) (reply fitting : Bool) → is_restart (kind_of reply fitting) ≡ false → (if reply then (if fitting then x else y) else z) ≡ (if reply then (if fitting then x else z) else z)
stays x y z true true e = refl
stays x y z true false e = absurd (true≢false e)
stays x y z false fitting e = refl

module _ {Q : Type 0} (number j : ℕ) (m : MapState Q) (fresh : ℕ) (merged : MapState Q) (me : ℕ) (p : PhaseState Q) where
  pub phase_restarts : heard_as p number m ≡ heard.Restart → heard_phase number j m fresh merged me p ≡ started fresh merged me
  phase_restarts e = restarts (counted p m j) (started fresh merged me) p (nat_le p.number number) (fits p m) (ap is_restart e)

  pub phase_counts : heard_as p number m ≡ heard.Counted → heard_phase number j m fresh merged me p ≡ after_letter p number m j
  phase_counts e = stays (counted p m j) (started fresh merged me) p (nat_le p.number number) (fits p m) (ap is_restart e)

  pub phase_stays : heard_as p number m ≡ heard.Old → heard_phase number j m fresh merged me p ≡ after_letter p number m j
  phase_stays e = stays (counted p m j) (started fresh merged me) p (nat_le p.number number) (fits p m) (ap is_restart e)

-- what becomes of the call at a place
module _ {Q : Type 0} (calls : List (OpenCall Q)) (place : ℕ) where
  found_at : slice_get (calls_of calls) place ≡ option_map call_of (slice_get calls place)
  found_at = slice_get-map call_of calls place

  -- it is put in another way
  pub put_at : (f : CallState Q → CallState Q) → place < length calls → (d e : OpenCall Q) → call_of d ≡ f (call_of (get_or calls place e))
      → calls_of (slice_set calls place d) ≡ with_call place (slice_get (calls_of calls) place) f (calls_of calls)
  put_at f below d e put =
      map-set call_of calls place d ∙ ap (slice_set (calls_of calls) place) put
      ∙ sym (ap (λ o. with_call place o f (calls_of calls)) (found_at ∙ ap (option_map call_of) (slice_get-get_or calls place e below)))

  -- there is none
  pub put_past : (f : CallState Q → CallState Q) → length calls ≤ place → calls_of calls ≡ with_call place (slice_get (calls_of calls) place) f (calls_of calls)
  put_past f past = sym (ap (λ o. with_call place o f (calls_of calls)) (found_at ∙ ap (option_map call_of) (slice_get_past calls place past)))

  -- it is taken out
  pub closed_at : calls_of (remove calls place) ≡ remove (calls_of calls) place
  closed_at = map-remove call_of calls place

-- the loops count by adding one
one_more : (i : ℕ) → suc i ≡ i + 1
one_more i = omega arith

-- room for a map's configurations
roomy_suc : {Q : Type 0} (m : MapState Q) (cs : List (OpenCall Q)) (i : ℕ) (d : OpenCall Q) → i < length cs → needed d.phase.state m ≤ d.phase.capacity → IsRoomy m (take i cs) → IsRoomy m (take (suc i) (slice_set cs i d))
roomy_suc m [] i d below room before = absurd (omega (arith, below))
roomy_suc m (c ∷ cs) zero d below room before = (room, _)
roomy_suc m (c ∷ cs) (suc i) d below room before = (before.0, roomy_suc m cs i d (omega (arith, below)) room before.1)

pub roomy_more : {Q : Type 0} (m : MapState Q) (cs : List (OpenCall Q)) (i : ℕ) (d : OpenCall Q) → i < length cs → needed d.phase.state m ≤ d.phase.capacity → IsRoomy m (take i cs) → IsRoomy m (take (i + 1) (slice_set cs i d))
roomy_more m cs i d below room before = subst (λ n. IsRoomy m (take n (slice_set cs i d))) (one_more i) (roomy_suc m cs i d below room before)

pub roomy_at : {Q : Type 0} (m : MapState Q) (cs : List (OpenCall Q)) (i : ℕ) (e : OpenCall Q) → i < length cs → IsRoomy m (drop i cs) → needed (get_or cs i e).phase.state m ≤ (get_or cs i e).phase.capacity
roomy_at m [] i e below room = absurd (omega (arith, below))
roomy_at m (c ∷ cs) zero e below room = room.0
roomy_at m (c ∷ cs) (suc i) e below room = roomy_at m cs i e (omega (arith, below)) room

rest_suc : {Q : Type 0} (m : MapState Q) (cs : List (OpenCall Q)) (i : ℕ) (d : OpenCall Q) → i < length cs → IsRoomy m (drop i cs) → IsRoomy m (drop (suc i) (slice_set cs i d))
rest_suc m [] i d below room = absurd (omega (arith, below))
rest_suc m (c ∷ cs) zero d below room = room.1
rest_suc m (c ∷ cs) (suc i) d below room = rest_suc m cs i d (omega (arith, below)) room

pub roomy_rest : {Q : Type 0} (m : MapState Q) (cs : List (OpenCall Q)) (i : ℕ) (d : OpenCall Q) → i < length cs → IsRoomy m (drop i cs) → IsRoomy m (drop (i + 1) (slice_set cs i d))
roomy_rest m cs i d below room = subst (λ n. IsRoomy m (drop n (slice_set cs i d))) (one_more i) (rest_suc m cs i d below room)

-- one more call has heard the letter
heard_suc : {Q : Type 0} (h : CallState Q → CallState Q) (cs : List (OpenCall Q)) (i : ℕ) (d e : OpenCall Q) → i < length cs → call_of d ≡ h (call_of (get_or cs i e))
    → calls_of (take (suc i) (slice_set cs i d)) ++ map h (calls_of (drop (suc i) (slice_set cs i d))) ≡ calls_of (take i cs) ++ map h (calls_of (drop i cs))
heard_suc h [] i d e below put = absurd (omega (arith, below))
heard_suc h (c ∷ cs) zero d e below put = ap (λ x. x ∷ map h (calls_of cs)) put
heard_suc h (c ∷ cs) (suc i) d e below put = ap (λ xs. call_of c ∷ xs) (heard_suc h cs i d e (omega (arith, below)) put)

pub heard_more : {Q : Type 0} (h : CallState Q → CallState Q) (cs : List (OpenCall Q)) (i : ℕ) (d e : OpenCall Q) → i < length cs → call_of d ≡ h (call_of (get_or cs i e))
    → calls_of (take (i + 1) (slice_set cs i d)) ++ map h (calls_of (drop (i + 1) (slice_set cs i d))) ≡ calls_of (take i cs) ++ map h (calls_of (drop i cs))
heard_more h cs i d e below put =
    subst (λ n. calls_of (take n (slice_set cs i d)) ++ map h (calls_of (drop n (slice_set cs i d))) ≡ calls_of (take i cs) ++ map h (calls_of (drop i cs))) (one_more i) (heard_suc h cs i d e below put)
