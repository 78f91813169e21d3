use Rattle.std.proofs.Common.{refl}
use Rattle.rambo_text.proofs.FirstBytes.{lacks-take, lacks-whole, cut_first}
use Rattle.rambo_text.proofs.words.next_word.Goals as goal

pub returns-in-Some : goal.returns-in-Some
returns-in-Some c =
    let found = c.in-Some.ensures in
    record {
      no_space = lacks-take 32 c.in-Some.place c.args.line.now found.0.before;
      whole = cut_first 32 c.in-Some.place c.args.line.now found.0.high found.1;
    }

pub returns-in-None : goal.returns-in-None
returns-in-None c = record {
  no_space = lacks-whole 32 c.args.line.now c.in-None.ensures;
  whole = refl;
}
