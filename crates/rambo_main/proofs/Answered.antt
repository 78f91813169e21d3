-- How a command ends that clap gave an error
use Rattle.std.proofs.Common.{◌≡◌, ◌⊎◌, ℕ, List, [], append-nil, inl, inr, ◌∙◌}
use Rattle.std.specs.Prelude.{Option, Some, None}
use Rattle.std.specs.Io.KnownBytes.{Appends, Keeps}
use Rattle.clap.specs.Words.{HasKind, Text, fault_of, kind_of}
use Rattle.clap.specs.declared.error.Error.{Error}
use Rattle.clap.specs.declared.error.kind.ErrorKind.TheVariants.{OutOfMemory}
use Rattle.rambo_text.specs.declared.fault.ReplayFault.TheVariants.{Memory}
use Rattle.rambo_command_line.specs.Lines.{rambo}
use Rattle.rambo_telling.specs.Telling.{EndsAs, GivesUp, IsFine, Stream}
use Rattle.rambo_main.specs.Statuses.{AnswersTo, EndsBy}

pub answered : (words : List Text) (e : Error) (status : ℕ) (write told : Stream) → HasKind (fault_of rambo words) e
    → (kind_of e ≡ OutOfMemory → GivesUp status write told) → GivesUp status write told ⊎ EndsAs (kind_of e) status write told → AnswersTo words status write told
answered words e status write told (inl is) memory ends = inl (memory is)
answered words e status write told (inr among) memory (inl up) = inl up
answered words e status write told (inr among) memory (inr ends) = inr (kind_of e, among, ends)

keeps_nothing_more : (old new : Option (List ℕ)) → Appends old new [] → Keeps old new
keeps_nothing_more None new same = tt
keeps_nothing_more (Some xs) None same = same
keeps_nothing_more (Some xs) (Some ys) same = same ∙ append-nil xs

-- where it asks for a task, there was no room
pub ends_by : (status : ℕ) (read write told : Stream) → IsFine read → GivesUp status write told → EndsBy Memory status read write told × Keeps write.old write.new
ends_by status read write told fine up = (
  record { status_is = up.status_is; reads = fine; writes = up.unwritten.fine; line = up.line },
  keeps_nothing_more _ _ up.unwritten.taken,
)
