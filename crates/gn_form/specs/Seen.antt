-- The code's forms as those of the definitions.
use Rattle.gn_kinds.specs.Seen.{row_of}
use Rattle.gn_atom.specs.Seen.{atom_of}
use Rattle.gn_form.specs.Form as is
use Rattle.gn_form.specs.declared.form.Form.{Form}
use Rattle.gn_form.specs.declared.form.Form.TheVariants as f

abbrev pub form_of : Form → is.Form
form_of f.Tree = is.a_tree
form_of f.Group = is.a_group
form_of f.Socket = is.a_socket
form_of f.Node = is.a_node
form_of f.Link = is.a_link
form_of f.Input = is.an_input
form_of (f.Atom atom) = is.an_atom (atom_of atom)
form_of f.Groups = is.groups
form_of f.Sockets = is.sockets
form_of f.Nodes = is.nodes
form_of f.Outputs = is.outputs
form_of (f.InputsOf row) = is.inputs_of (row_of row.now)
form_of (f.SettingsOf row) = is.settings_of (row_of row.now)
form_of f.AnyInputs = is.any_inputs
form_of f.AnyObject = is.any_object
