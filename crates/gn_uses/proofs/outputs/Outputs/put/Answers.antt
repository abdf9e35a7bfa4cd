use Rattle.std.proofs.Common.{◌≡◌, ◌<◌, ◌++◌, ◌∷◌, [], false, length, get_or, sym, ap, ◌∙◌, subst, arith}
use Rattle.gn_node_set.proofs.Lists.{index_image}
use Rattle.gn_uses.specs.Sets.{rows_of, row, sizes_of, IsIn, has_out, with_out}
use Rattle.gn_uses.proofs.Flags.{put_output, same_sizes, flag_there, new_out}
use Rattle.gn_uses.proofs.outputs.Outputs.put.Goals as goal

pub invariant_of-self : goal.invariant_of-self
invariant_of-self c =
    let rows = rows_of c.self.inside.flags.items in
    let there : c.args.out.output < length (row rows c.args.out.node) =
    flag_there rows c.args.self.now.sizes c.args.out (ap (λ s. s.sizes) c.self.view_is) c.requires in
    let free : get_or (row rows c.args.out.node) c.args.out.output false ≡ false =
    ap (λ vs. get_or (row (rows_of vs) c.args.out.node) c.args.out.output false) (sym c.deref.ensures.value) ∙ (sym c.flag_of.ensures ∙ c.if-flag_of.false) in
    rw (c.set_flag.ensures, c.push_reserved.ensures.items, c.push_reserved.ensures.capacity)
    (put_output rows c.self.inside.items.items c.args.out c.self.inside.total _ c.self.invariant there free)

pub returns : goal.returns
returns c =
    let rows = rows_of c.self.inside.flags.items in
    let there : c.args.out.output < length (row rows c.args.out.node) =
    flag_there rows c.args.self.now.sizes c.args.out (ap (λ s. s.sizes) c.self.view_is) c.requires in
    let free : get_or (row rows c.args.out.node) c.args.out.output false ≡ false =
    ap (λ vs. get_or (row (rows_of vs) c.args.out.node) c.args.out.output false) (sym c.deref.ensures.value) ∙ (sym c.flag_of.ensures ∙ c.if-flag_of.false) in
    let missing : has_out c.self.inside.items.items c.args.out ≡ false = sym (c.self.invariant.flagged c.args.out) ∙ free in
    let sizes = ap sizes_of c.set_flag.ensures ∙ (same_sizes rows c.self.inside.items.items c.args.out there ∙ ap (λ s. s.sizes) c.self.view_is) in
    let total = ap (λ s. s.total) c.self.view_is in
    let items = c.push_reserved.ensures.items ∙ (new_out c.self.inside.items.items c.args.out missing ∙ ap (λ s. with_out s.items c.args.out) c.self.view_is) in
    λ i. record { sizes = sizes i; total = total i; items = items i }
