-- What is found, in one go, of the phases that are wished for
use Rattle.std.specs.Prelude.{ℕ, max, Bool, true, false, ◌||◌, nat_le, List, fold}
use Rattle.rambo_outbox.specs.declared.found.Found.{Found}

abbrev pub nothing_found : Found
nothing_found = record { is_some = false; is_under_way = false; greatest = 0 }

abbrev pub found_one : ℕ → Found → ℕ → Found
found_one asked f n = record { is_some = true; is_under_way = f.is_under_way || nat_le n asked; greatest = max f.greatest n }

abbrev pub found_in : ℕ → List ℕ → Found → Found
found_in asked ns f = fold (found_one asked) f ns
