-- Marks that are told by the places of their calls
use Rattle.std.proofs.Common.{◌≡◌, ℕ, zero, suc, ◌++◌, true, false, cond, List, [], ◌∷◌, slice_get, Option, None, Some, is_some, unwrap_or, option_map, refl, sym, ap, ◌∙◌, subst, true≢false}
use Rattle.rambo_tag.specs.declared.tag.Tag.{Tag}
use Rattle.rambo_tag.specs.Tags.{no_tag, tag_of}
use Rattle.rambo_history.specs.declared.operation.Op.{Op}
use Rattle.rambo_history.specs.declared.event.CallId.{CallId}
use Rattle.rambo_history.specs.declared.event.Event.{Event}
use Rattle.rambo_history.specs.declared.event.Event.TheVariants as event
use Rattle.rambo_history.specs.Calls.{is_get, same_call}
use Rattle.rambo_history.specs.Forms.{CallsOnce}
use Rattle.rambo_history.specs.Histories.{call_in}
use Rattle.rambo_history.proofs.AnsweredBefore.{once-tail, once-head}
use Rattle.rambo_history.proofs.Pushes.{same_call-path, same_call-refl}
use Rattle.rambo_sequence.specs.declared.mark.Mark.{Mark}
use Rattle.rambo_sequence.specs.declared.mark.TaggedPlace.{TaggedPlace}
use Rattle.rambo_sequence.specs.Marks.{propagated, mark_at, marks_at, with_some}
use Rattle.rambo_sequence.specs.RankedCalls.{sort_key_at, sort_key_of}
use Rattle.rambo_sequence.specs.Sequences.{call_place}

-- a call that is made at a place is in the history
pub made-there : (es : List Event) (n : ℕ) (c : CallId) (o : Op) → slice_get es n ≡ Some (event.Call c o) → is_some (call_in es c) ≡ true
made-there [] n c o e = absurd (cc)
made-there (event.Call d p ∷ es) zero c o e =
    let same : d ≡ c = cc in
    ap (λ t. is_some (cond t (Some p) (call_in es c))) (ap (λ d. same_call d c) same ∙ same_call-refl c)
made-there (event.Call d p ∷ es) (suc n) c o e =
    elim (same_call d c) as (λ t. is_some (cond t (Some p) (call_in es c)) ≡ true) [ true ↦ refl | false ↦ made-there es n c o e ]
made-there (event.Answer d a ∷ es) zero c o e = absurd (cc)
made-there (event.Answer d a ∷ es) (suc n) c o e = made-there es n c o e

-- and it is made nowhere else
pub call_place-there : (es : List Event) (n : ℕ) (c : CallId) (o : Op) → CallsOnce es → slice_get es n ≡ Some (event.Call c o) → call_place c es ≡ n
call_place-there [] n c o once e = absurd (cc)
call_place-there (event.Call d p ∷ es) zero c o once e =
    let same : d ≡ c = cc in
    ap (λ t. cond t zero (suc (call_place c es))) (ap (λ d. same_call d c) same ∙ same_call-refl c)
call_place-there (event.Call d p ∷ es) (suc n) c o once e =
    elim (same_call d c) as (λ t. same_call d c ≡ t → cond t zero (suc (call_place c es)) ≡ suc n) [
      | true ↦ λ same. absurd (true≢false (sym (made-there es n c o e) ∙ ap is_some (gone same)))
      | false ↦ λ other. ap suc (call_place-there es n c o (once-tail (event.Call d p) es once) e)
    ] refl
  where
    gone : same_call d c ≡ true → call_in es c ≡ None
    gone same = subst (λ x. call_in es x ≡ None) (same_call-path d c same) (once-head d p es once)
call_place-there (event.Answer d a ∷ es) zero c o once e = absurd (cc)
call_place-there (event.Answer d a ∷ es) (suc n) c o once e = ap suc (call_place-there es n c o (once-tail (event.Answer d a) es once) e)

-- what such a mark is ordered by
tag-there : (es : List Event) (c : CallId) (o : Op) (tag : Option Tag) → unwrap_or tag no_tag ≡ tag_of (option_map (propagated es c o) tag)
tag-there es c o None = refl
tag-there es c o (Some t) = refl

pub sort_key-there : (es : List Event) (p : TaggedPlace) (c : CallId) (o : Op) → CallsOnce es → slice_get es p.place ≡ Some (event.Call c o)
    → sort_key_at o p ≡ sort_key_of es (record { id = c; op = o; kept = option_map (propagated es c o) p.tag })
sort_key-there es p c o once e =
    λ i. record {
      sequence = (tag-there es c o p.tag i).sequence;
      writer = (tag-there es c o p.tag i).name;
      rank = cond (is_get o) (suc (sym (call_place-there es p.place c o once e) i)) zero;
    }

-- one more place, at which a call is made or none
pub marks_at-push : (es : List Event) (ps : List TaggedPlace) (p : TaggedPlace) → marks_at es (ps ++ p ∷ []) ≡ marks_at es ps ++ with_some (mark_at es p) []
unfolding marks_at
marks_at-push es [] p = refl
marks_at-push es (q ∷ ps) p = ap (with_some (mark_at es q)) (marks_at-push es ps p) ∙ before (mark_at es q) (marks_at es ps) (with_some (mark_at es p) [])
  where
    before : (o : Option Mark) (ms ns : List Mark) → with_some o (ms ++ ns) ≡ with_some o ms ++ ns
    before None ms ns = refl
    before (Some m) ms ns = refl
