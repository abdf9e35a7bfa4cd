use Rattle.std.proofs.Common.{◌≡◌, ◌<◌, ◌∙◌, ◌++◌, ◌∷◌, [], All, Some, length, map, refl, sym, ap, subst}
use Rattle.std.specs.Prelude.{slice_get}
use Rattle.std.proofs.lemmas.Option.{slice_get-get_or, slice_get_within}
use Rattle.gn_node_set.specs.Lists.{all_of}
use Rattle.gn_meaning.specs.Sites.{plain_step}
use Rattle.gn_lower.specs.Carried.{Begins, IsRead, came_in, came_of}
use Rattle.gn_lower.proofs.Granted.{group_table, reads_there, row_read}
use Rattle.gn_lower.proofs.Steps.{goes_on_entering}
use Rattle.gn_lower.proofs.unfold.Unfolding.enter.Goals as goal

pub all_carried-requires : goal.all_carried-requires
all_carried-requires c =
    reads_there c.args.self.now.nodes.items c.args.self.now.visit c.deref.result.now
    (subst (All (IsRead c.args.self.now.nodes.items c.args.self.now.visit)) (sym c.deref.ensures.value) (row_read c.args.self.now c.requires.stands c.args.number c.args.row.now c.requires.next.0))

pub index-requires : goal.index-requires
index-requires c =
    let table = group_table c.args.self.now c.requires.stands c.args.number c.args.row.now c.requires.next.0 c.args.group c.requires.next.1 in
    subst (λ k. c.args.group < k) (sym c.args.self.now.tables.now.groups.ok.0) (slice_get_within c.args.self.now.tables.now.groups.items c.args.group table.0 table.1)

pub returns : goal.returns
returns c =
    let table = group_table c.args.self.now c.requires.stands c.args.number c.args.row.now c.requires.next.0 c.args.group c.requires.next.1 in
    let within : c.args.group < length c.args.self.now.tables.now.groups.items = slice_get_within c.args.self.now.tables.now.groups.items c.args.group table.0 table.1 in
    let found : slice_get c.args.self.now.tables.now.groups.items c.args.group ≡ Some c.index.result.now = slice_get-get_or c.args.self.now.tables.now.groups.items c.args.group c.index.result.now within ∙ ap Some (sym c.index.ensures) in
    let begins : Begins c.index.result.now (map came_of c.in_ok-entries.entries.items) c.replace.new.dest = subst (Begins c.index.result.now (map came_of c.in_ok-entries.entries.items)) (sym c.replace.ensures.after) c.in_ok-visit.ensures in
    goes_on_entering c.args.self.now _ c.requires.stands refl c.args.number c.args.group c.args.row.now c.index.result.now (plain_step c.in_ok-narrow.field-0) (map came_of c.in_ok-entries.entries.items)
    c.requires.next.0 c.requires.next.1 found (ap plain_step c.in_ok-narrow.ensures) c.in_ok-push.ensures.items
    (c.in_ok-push-2.ensures.items ∙ ap (λ v. c.args.self.now.outer.items ++ v ∷ []) c.replace.ensures.value)
    (ap (λ rs. all_of (map (came_in c.args.self.now.visit) rs)) (sym c.deref.ensures.value) ∙ c.in_ok-entries.ensures)
    begins
