-- What holds of the stored logs once room was made
use Rattle.std.proofs.Common.{◌≡◌, ℕ, ◌<◌, ◌≤◌, ◌++◌, max, List, length, replicate, sym, ap, subst, arith}
use Rattle.rambo_tag.specs.declared.keyed_version.KeyedVersion.{KeyedVersion}
use Rattle.rambo_logs.specs.declared.entry.Entry.{Entry}
use Rattle.rambo_logs.specs.Stored.{hint_place, AreDistinct, AreStored}
use Rattle.rambo_logs.specs.Numbers.{Extends}
use Rattle.rambo_logs.proofs.Storing.{AreStored-keys, AreStored-zeros}

module _ (puts : List KeyedVersion) (keys : List (List ℕ)) (hints : List ℕ) (logs : List (List Entry)) (s : AreStored puts keys hints logs) where
  -- a key has a number
  pub stored_keys : (next : List (List ℕ)) → Extends keys next → AreDistinct next → AreStored puts next hints logs
  stored_keys next grows distinct =
      subst (λ k. AreStored puts k hints logs) (sym grows.1) (AreStored-keys puts keys grows.0 hints logs (subst AreDistinct grows.1 distinct) s)

  -- and a row
  pub stored_rows : (after : List ℕ) (n number : ℕ) → number < length keys → after ≡ hints ++ replicate n 0 → length after ≤ max (length hints) (hint_place number 64) → AreStored puts keys after logs
  stored_rows after n number known grows rows =
      let same = ap length grows in
      let held = s.rows in
      subst (λ h. AreStored puts keys h logs) (sym grows) (AreStored-zeros puts keys hints n logs (omega (arith, same, held, known, rows)) s)

  pub stored_puts : (next : List KeyedVersion) → next ≡ puts → AreStored next keys hints logs
  stored_puts next same = subst (λ p. AreStored p keys hints logs) (sym same) s
