use Rattle.std.proofs.Common.{◌≡◌, ◌<◌, ◌^◌, take}
use Rattle.std.specs.Str.Parse.{AllDigits, digits_value}
use Rattle.rambo_names.proofs.signs.leading_num.Given as goal

-- the digits so far, and the number that they write
abbrev pub invariant-loop-place : goal.invariant-loop-place
invariant-loop-place l = record {
  digits : AllDigits 10 (take l.place l.line);
  value : l.number ≡ digits_value 10 (take l.place l.line);
  fits : l.number < 2 ^ 64;
}
