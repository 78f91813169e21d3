-- What is replied
use Rattle.std.specs.Prelude.{ℕ, List, ◌∷◌, ◌++◌, map, codes, decimal}
use Rattle.rambo_names.specs.declared.refusal.Refusal.{Refusal}
use Rattle.rambo_names.specs.Weights.{Weights}
use Rattle.rambo_names.specs.Signs.{conf_text}
use Rattle.rambo_history.specs.declared.operation.Answer.{Answer}
use Rattle.rambo_history.specs.declared.operation.Answer.TheVariants as answer
use Rattle.rambo_text.specs.Words.{words_text}
use Rattle.rambo_resp.specs.declared.fault.Fault.{Fault}
use Rattle.rambo_resp.specs.declared.reply.Reply.{Reply}
use Rattle.rambo_resp.specs.declared.reply.Reply.TheVariants as reply
use Rattle.rambo_resp.specs.Faults.{number_of}
use Rattle.rambo_commands.specs.Mistakes.{refused_words}

-- the reply with an answer
abbrev pub telling : Answer → Reply
telling answer.Ok = reply.Ok
telling answer.Nil = reply.Nil
telling (answer.Value value) = reply.Bulk value

-- the reply to a refusal
abbrev pub refusal_reply : Refusal → Reply
refusal_reply refusal = reply.Error (refused_words refusal)

-- the reply to a fault of the stream
abbrev pub fault_reply : Fault → Reply
fault_reply fault = reply.Error (codes "ERR protocol fault P" ++ decimal (number_of fault))

-- the lowest active place of a map and the configurations from there on, as words
abbrev pub map_text : ℕ → List Weights → List ℕ
map_text floor confs = words_text (decimal floor ∷ map conf_text confs)

abbrev pub map_reply : ℕ → List Weights → Reply
map_reply floor confs = reply.Bulk (map_text floor confs)
