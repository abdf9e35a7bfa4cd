-- Tables that are made of a list are those of its body.
use Rattle.std.proofs.Common.{◌≡◌, ◌∙◌, List, [], map, Result, Ok, Err, IfOk, refl, sym, ap, subst}
use Rattle.gn_memory.specs.declared.Memory.{Memory}
use Rattle.gn_rules.specs.Sockets.{one_of}
use Rattle.gn_rules.specs.Rules.{graph_of}
use Rattle.gn_rules.specs.Scopes.{Scope}
use Rattle.gn_meaning.specs.Sites.{Way}
use Rattle.gn_meaning.specs.Bodies.{Body}
use Rattle.gn_meaning.specs.Reads.{reads_of}
use Rattle.gn_stands.specs.Order.{by_rank}
use Rattle.gn_table.specs.declared.read.Read.{Read}
use Rattle.gn_table.specs.declared.table.Table.{Table}
use Rattle.gn_table.specs.Reads.{reads_in}
use Rattle.gn_table.specs.Tables.{HoldRows, IsTable, IsTableOf}

pub same_nodes : (r s : Scope) → r ≡ s → r.nodes ≡ s.nodes
same_nodes r s e = ap (λ x. x.nodes) e

module _ (b : Body) (s : Scope) (given : List Read) (same : s ≡ b.scope) (gives : (way : Way) → reads_in way given ≡ reads_of s way b.output (map one_of b.sockets) []) where
  is_table : (table : Table) → IsTableOf s given table → IsTable b table
  is_table table h = record {
    rows = subst (λ x. HoldRows x table.rows.items) same h.rows;
    order = h.order ∙ ap (λ x. by_rank (graph_of x.nodes)) same;
    given = λ way. ap (reads_in way) h.given ∙ (gives way ∙ ap (λ x. reads_of x way b.output (map one_of b.sockets) []) same);
  }

  pub table_made : (r : Result Table Memory) → IfOk r (IsTableOf s given) → IfOk r (IsTable b)
  table_made (Ok table) h = is_table table h
  table_made (Err x) h = tt
