-- How it is reported what is wrong with a command
use Rattle.std.specs.Prelude.{ℕ, List, ◌∷◌, ◌++◌, codes, decimal}
use Rattle.rambo_names.specs.declared.refusal.Refusal.{Refusal}
use Rattle.rambo_names.specs.Refusals.{number_of, word_of}
use Rattle.rambo_resp.specs.declared.reply.Reply.{Reply}
use Rattle.rambo_resp.specs.declared.reply.Reply.TheVariants.{Error}
use Rattle.rambo_commands.specs.declared.mistake.Mistake.{Mistake}
use Rattle.rambo_commands.specs.declared.mistake.Mistake.TheVariants.{UnknownCommand, WrongCount, BadArgument, Refused}

-- a refusal is reported by its number and its word
abbrev pub refused_words : Refusal → List ℕ
refused_words refusal = codes "ERR refused " ++ decimal (number_of refusal) ++ 32 ∷ word_of refusal

abbrev pub words_for : Mistake → List ℕ
words_for UnknownCommand = codes "ERR unknown command"
words_for WrongCount = codes "ERR wrong number of arguments"
words_for BadArgument = codes "ERR bad argument"
words_for (Refused refusal) = refused_words refusal

abbrev pub error_for : Mistake → Reply
error_for mistake = Error (words_for mistake)
