-- What an ordinary map replies to requests, one after another
use Rattle.std.specs.Prelude.{ℕ, List, [], ◌∷◌, ◌++◌, map}
use Rattle.rambo_resp.specs.declared.reply.Reply.{Reply}
use Rattle.rambo_resp.specs.Replies.{reply_spelling}
use Rattle.rambo_resp.specs.Streams.{Ending, open_at, faulty}
use Rattle.rambo_commands.specs.declared.request.Request.{Request}
use Rattle.rambo_commands.specs.declared.request.Request.TheVariants.{Says, Does}
use Rattle.rambo_client.specs.Maps.{Map, no_values, after, answer_of}
use Rattle.rambo_commands.specs.Requests.{request_of}
use Rattle.rambo_commands.specs.Replies.{telling, fault_reply}

abbrev pub reply_to : Map → Request → Reply
reply_to m (Says r) = r
reply_to m (Does o) = telling (answer_of m o)

-- the map after a request, and after several
abbrev pub after_one : Map → Request → Map
after_one m (Says r) = m
after_one m (Does o) = after m o

abbrev pub after_all : Map → List Request → Map
after_all m [] = m
after_all m (q ∷ qs) = after_all (after_one m q) qs

-- the replies, as they are spelt
abbrev pub replies : Map → List Request → List ℕ
replies m [] = []
replies m (q ∷ qs) = reply_spelling (reply_to m q) ++ replies (after_one m q) qs

-- the requests of commands
abbrev pub requests : List (List (List ℕ)) → List Request
requests commands = map request_of commands

-- the reply to the fault of the stream, if it has one
abbrev pub last_reply : Ending → List ℕ
last_reply (open_at bytes place) = []
last_reply (faulty fault) = reply_spelling (fault_reply fault)

-- all that is replied to a stream of these commands that ends so. To each command it is what an ordinary map, empty at
-- first, replies; last comes the reply to the fault, if there is one
abbrev pub text_of : List (List (List ℕ)) → Ending → List ℕ
text_of commands ending = replies no_values (requests commands) ++ last_reply ending
