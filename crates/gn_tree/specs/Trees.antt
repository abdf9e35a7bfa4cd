-- Trees of nodes, as they are written. A text is the list of its bytes.
use Rattle.std.specs.Prelude.{ℕ, suc, ◌+◌, Bool, List, Option}
use Rattle.gn_value.specs.declared.value.Place.{Place}
use Rattle.gn_value.specs.declared.value.Value.{Value}
use Rattle.gn_kinds.specs.declared.row.SocketKind.{SocketKind}
use Rattle.gn_kinds.specs.Row.{Text}

-- a link leads to an output of a node, or to an input of the list that it stands in
pub record Link : Type 0 where
  pub from : Text
  pub socket : Text

-- what stands at an input; one link and a list of links are kept apart
pub data Input : Type 0 where
  constant : Value → Input
  link : Link → Input
  links : List Link → Input

-- an input under the name of its socket
pub record Named : Type 0 where
  pub name : Text
  pub input : Input

pub record Socket : Type 0 where
  pub name : Text
  pub kind : SocketKind

-- a setting that holds no nodes
pub data Setting : Type 0 where
  of_kind : SocketKind → Setting
  op : Text → Setting
  place : Place → Setting
  clamp : Bool → Setting
  a_name : Text → Setting
  file : Text → Setting
  value : Value → Setting
  of_group : Text → Setting

mutual
  -- a node: its id, its kind, its settings and its inputs
  pub data Node : Type 0 where
    node : Text → Text → Settings → List Named → Node

  -- the settings of a node, in the order of its kind's row
  pub data Settings : Type 0 where
    no_settings : Settings
    and_setting : Setting → Settings → Settings
    -- a zone: its items, the nodes of its body, and what the body gives out
    and_zone : List Socket → Nodes → List Named → Settings → Settings

  pub data Nodes : Type 0 where
    no_nodes : Nodes
    and_node : Node → Nodes → Nodes

pub record Group : Type 0 where
  pub name : Text
  pub inputs : List Socket
  pub outputs : List Socket
  pub nodes : Nodes
  pub output : List Named

pub record Tree : Type 0 where
  pub format : ℕ
  pub groups : List Group
  pub nodes : Nodes
  pub output : Option Input

-- how many zones and nodes a node is made of
abbrev mutual
  pub node_size : Node → ℕ
  node_size (node id kind settings inputs) = suc (settings_size settings)

  pub settings_size : Settings → ℕ
  settings_size no_settings = 0
  settings_size (and_setting x rest) = settings_size rest
  settings_size (and_zone items nodes output rest) = suc (nodes_size nodes + settings_size rest)

  pub nodes_size : Nodes → ℕ
  nodes_size no_nodes = 0
  nodes_size (and_node x xs) = node_size x + nodes_size xs
