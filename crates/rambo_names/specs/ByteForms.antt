-- The bytes of either form
use Rattle.std.specs.Prelude.{ℕ, List}
use Rattle.std.specs.Arc.{arc_slice_items}
use Rattle.rambo_names.specs.ShortForms.{short_bytes}
use Rattle.rambo_names.specs.declared.bytes.Form.{Form}
use Rattle.rambo_names.specs.declared.bytes.Form.TheVariants.{Short, Shared}

abbrev pub bytes_of : Form → List ℕ
bytes_of (Short bytes) = short_bytes bytes
bytes_of (Shared items) = arc_slice_items items
