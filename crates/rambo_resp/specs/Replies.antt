-- How replies are spelt
use Rattle.std.specs.Prelude.{ℕ, List, ◌∷◌, ◌++◌, codes}
use Rattle.rambo_resp.specs.Spellings.{line_end, item_spelling}
use Rattle.rambo_resp.specs.declared.reply.Reply.{Reply}
use Rattle.rambo_resp.specs.declared.reply.Reply.TheVariants.{Pong, Ok, Nil, Bulk, Error}

-- the one spelling of a reply
abbrev pub reply_spelling : Reply → List ℕ
reply_spelling Pong = codes "+PONG" ++ line_end
reply_spelling Ok = codes "+OK" ++ line_end
reply_spelling Nil = codes "$-1" ++ line_end
reply_spelling (Bulk bytes) = item_spelling bytes
reply_spelling (Error words) = (45 ∷ words) ++ line_end
