-- The plain name that a name stands for.
use Rattle.std.specs.Prelude.{string_bytes}
use Rattle.gn_plain.specs.Columns as plain
use Rattle.gn_attr.specs.declared.name.Name.{Name}
use Rattle.gn_attr.specs.declared.name.Name.TheVariants.{Named, Anonymous}

abbrev pub plain_name : Name → plain.Name
plain_name (Named text) = plain.named (string_bytes text)
plain_name (Anonymous path socket) = plain.anonymous path.steps.items socket
