-- The parts of a step, each of which is a word of its line
use Rattle.std.specs.Prelude.{ℕ, ◌<◌, ◌^◌, List, decimal}
use Rattle.rambo_names.specs.Names.{NameSet, IsName, AreNames}
use Rattle.rambo_names.specs.Signs.{set_text, conf_text, IsConf}
use Rattle.rambo_names.specs.Weights.{Weights}
use Rattle.rambo_history.specs.declared.event.CallId.{CallId}
use Rattle.rambo_text.specs.Forms.{Form}
use Rattle.rambo_text.specs.Forms as form
use Rattle.rambo_text.specs.Signs.{call_text, hex_text, IsCall, AreBytes}

pub data Part : Type 0 where
  Number : ℕ → Part
  Name : ℕ → Part
  Names : NameSet → Part
  Conf : Weights → Part
  Call : CallId → Part
  Bytes : List ℕ → Part

-- the form of its word
abbrev pub form_of : Part → Form
form_of (Number n) = form.Num
form_of (Name n) = form.Name
form_of (Names s) = form.Set
form_of (Conf c) = form.Conf
form_of (Call c) = form.Call
form_of (Bytes bs) = form.Hex

-- that word
abbrev pub part_text : Part → List ℕ
part_text (Number n) = decimal n
part_text (Name n) = decimal n
part_text (Names s) = set_text s
part_text (Conf c) = conf_text c
part_text (Call c) = call_text c
part_text (Bytes bs) = hex_text bs

-- it has a word: a name is one, also in a set and a configuration, and a number has 64 bits
abbrev pub IsPart : Part → Type 0
IsPart (Number n) = n < 2 ^ 64
IsPart (Name n) = IsName n
IsPart (Names s) = AreNames s
IsPart (Conf c) = IsConf c
IsPart (Call c) = IsCall c
IsPart (Bytes bs) = AreBytes bs
