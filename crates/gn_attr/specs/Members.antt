-- How a list of columns is kept: a map from names to members.
use Rattle.gn_plain.specs.Columns.{Entry}
use Rattle.gn_attr.specs.Names.{plain_name}
use Rattle.gn_attr.specs.declared.name.Name.{Name}
use Rattle.gn_attr.specs.declared.column.Column.{Column}
use Rattle.gn_attr.specs.declared.columns.Member.{Member}

abbrev pub entry_of : Name × Member → Entry Column
entry_of m = record { name = plain_name m.0; place = m.1.place; column = m.1.column }
