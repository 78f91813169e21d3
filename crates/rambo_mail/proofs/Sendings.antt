-- A letter that is sent to a name for which there is room
use Rattle.std.proofs.Common.{◌≡◌, ℕ, ◌-◌, ◌<◌, ◌≤◌, true, false, if◌then◌else◌, List, [], ◌∷◌, length, replicate, Option, Some, slice_index_or, sym, ap, ◌∙◌, subst}
use Rattle.rambo_mail.specs.declared.entry.Entry.{Entry}
use Rattle.rambo_mail.specs.Queues.{QueueState, no_queue, HasRoom}
use Rattle.rambo_mail.specs.Waiting.{divides, times}
use Rattle.rambo_mail.proofs.Lists.{any_default}

pub twice_times : (lose twice : ℕ) (n : Entry) → divides lose n.number ≡ false → divides twice n.number ≡ true → replicate (times lose twice n.number) n ≡ n ∷ n ∷ []
twice_times lose twice n e f = λ i. replicate (if e i then 0 else if f i then 2 else 1) n

pub once_times : (lose twice : ℕ) (n : Entry) → divides lose n.number ≡ false → divides twice n.number ≡ false → replicate (times lose twice n.number) n ≡ n ∷ []
once_times lose twice n e f = λ i. replicate (if e i then 0 else if f i then 2 else 1) n

-- the room that there is in its queue
pub roomy : (qs : List QueueState) (o : Option ℕ) (to place : ℕ) (q : QueueState) → HasRoom qs o → o ≡ Some to → place ≡ to - 1 → place < length qs → q ≡ slice_index_or qs place q → 2 ≤ q.room
roomy qs o to place q room e at lt is =
    let r = subst (HasRoom qs) e room in
    let same : (slice_index_or qs (to - 1) no_queue).room ≡ q.room = ap (λ (q : QueueState). q.room) (ap (λ p. slice_index_or qs p no_queue) (sym at) ∙ any_default qs place no_queue q lt ∙ sym is) in
    subst (λ n. 2 ≤ n) same r
