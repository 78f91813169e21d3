use Rattle.std.proofs.Common.{refl, inl, inr}
use Rattle.rambo_text.proofs.FirstBytes.{lacks-take, lacks-whole, cut_first}
use Rattle.rambo_text.proofs.words.next_line.Goals as goal

pub returns-in-Some : goal.returns-in-Some
returns-in-Some c =
    let found = c.in-Some.ensures in
    record {
      no_feed = lacks-take 10 c.in-Some.place c.args.text.now found.0.before;
      whole = inl (cut_first 10 c.in-Some.place c.args.text.now found.0.high found.1);
    }

pub returns-in-None : goal.returns-in-None
returns-in-None c = record {
  no_feed = lacks-whole 10 c.args.text.now c.in-None.ensures;
  whole = inr (refl, refl);
}
