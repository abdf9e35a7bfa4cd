-- The sites that a tree brings stand in lists that ways lead to: into group nodes without a turn, into repeats by one.
use Rattle.std.proofs.Common.{◌≡◌, ◌⊎◌, inl, inr, ℕ, zero, suc, List, [], ◌∷◌, ◌++◌, map, Option, Some, None, refl, sym, ap, subst}
use Rattle.std.specs.Prelude.{Bool, true, false, find, bytes_eq, codes, option_map, option_and_then, if◌then◌else◌}
use Rattle.std.specs.Option.{option_map_or}
use Rattle.gn_kinds.specs.declared.row.SocketKind.{SocketKind}
use Rattle.gn_kinds.specs.declared.row.DefaultValue.{DefaultValue}
use Rattle.gn_kinds.specs.declared.row.DefaultValue.TheVariants.{Zero}
use Rattle.gn_lazy.specs.declared.path.PathStep.{PathStep}
use Rattle.gn_tree.specs.NodeKinds.{Kind}
use Rattle.gn_tree.specs.Trees.{Link, Input, constant, link, links, Named, Node, node, Tree}
use Rattle.gn_rules.specs.declared.shape.Shape.{Shape}
use Rattle.gn_rules.specs.Sockets.{Declared, one_of, inputs_of, inputs_of_kind, outputs_of, ids, node_at}
use Rattle.gn_rules.specs.Scopes.{Scope, source}
use Rattle.gn_names.specs.First.{first_of}
use Rattle.gn_node_set.specs.Meanings.{Has, Role, Plain, Switch, File, Zone, Choice, Rows, head_of, tail_of, member, chosen, one_case, all_cases, no_case, first_read, then_read}
use Rattle.gn_meaning.specs.Sites.{Way, the_tree, into, plain_step, turn_step, Site, at_output, at_input, at_item, at_constant, nowhere, a_value, default_at, Read, plain_read}
use Rattle.gn_meaning.specs.Bodies.{Body, body_in, body_at}
use Rattle.gn_meaning.specs.Reads.{number_in, link_site, read_from, link_read, input_reads, unwritten, socket_reads, reads_of, default_of, node_reads, given_out, read_at, Run, Part, a_node, a_group, a_repeat, part_by, part_in, part_at, out_of, run_in, run_of}
use Rattle.gn_meaning.specs.Denotation.{Given}
use Rattle.gn_meaning.specs.Demand.{Wanted, a_root, an_input, a_case, a_group_output, a_group_input, a_result, a_first_item, a_later_item, an_item}
use Rattle.gn_meaning.proofs.Options.{map_some, then_some, some_same}
use Rattle.gn_meaning.proofs.Lists.{has_either, image_of}

-- ---- what is read from a list

module _ (way : Way) where
  -- the site is a constant, or stands in the list at the way
  abbrev pub IsIn : Site → Type 0
  IsIn (at_output w n s) = w ≡ way
  IsIn (at_input w i) = w ≡ way
  IsIn (at_item w n k i) = ⊥
  IsIn (at_constant c) = Unit {0}
  IsIn nowhere = Unit {0}

  abbrev pub AllIn : List Read → Type 0
  AllIn reads = (r : Read) → Has reads r → IsIn r.from

  abbrev IfIn : Option Site → Type 0
  IfIn None = Unit {0}
  IfIn (Some site) = IsIn site

  input_in : (o : Option ℕ) → IfIn (option_map (at_input way) o)
  input_in None = tt
  input_in (Some i) = refl

  output_in : (n : ℕ) (o : Option ℕ) → IfIn (option_map (at_output way n) o)
  output_in n None = tt
  output_in n (Some i) = refl

  node_in : (s : Scope) (l : Link) (n : ℕ) (o : Option Node) → IfIn (option_and_then (λ x. option_map (at_output way n) (number_in (outputs_of s.groups x) l.socket)) o)
  node_in s l n None = tt
  node_in s l n (Some x) = output_in n (number_in (outputs_of s.groups x) l.socket)

  nodes_in : (s : Scope) (l : Link) (o : Option ℕ) → IfIn (option_and_then (λ n. option_and_then (λ x. option_map (at_output way n) (number_in (outputs_of s.groups x) l.socket)) (node_at s.nodes n)) o)
  nodes_in s l None = tt
  nodes_in s l (Some n) = node_in s l n (node_at s.nodes n)

  from_in : (s : Scope) (l : Link) (b : Bool) → IfIn (if b then option_map (at_input way) (number_in s.entries l.socket) else option_and_then (λ n. option_and_then (λ x. option_map (at_output way n) (number_in (outputs_of s.groups x) l.socket)) (node_at s.nodes n)) (first_of (ids s.nodes) l.from))
  from_in s l true = input_in (number_in s.entries l.socket)
  from_in s l false = nodes_in s l (first_of (ids s.nodes) l.from)

  read_in : (kind : SocketKind) (shape : Option Shape) (site : Option Site) → IfIn site → IsIn (read_from kind shape site).from
  read_in kind None site h = tt
  read_in kind (Some shape) None h = tt
  read_in kind (Some shape) (Some site) h = h

  link_in : (s : Scope) (kind : SocketKind) (l : Link) → IsIn (link_read s way kind l).from
  link_in s kind l = read_in kind (source s l) (link_site s way l) (from_in s l (bytes_eq l.from (codes "input")))

  one_in : (q : Read) → IsIn q.from → AllIn (q ∷ [])
  one_in q h r (inl e) = subst (λ x. IsIn x.from) (sym e) h
  one_in q h r (inr e) = absurd e

  none_in : AllIn []
  none_in r h = absurd h

  inputs_in : (s : Scope) (kind : SocketKind) (x : Input) → AllIn (input_reads s way kind x)
  inputs_in s kind (constant v) = one_in (plain_read (at_constant (a_value v))) tt
  inputs_in s kind (link l) = one_in (link_read s way kind l) (link_in s kind l)
  inputs_in s kind (links ls) = λ r h. let from = image_of (link_read s way kind) ls r h in subst (λ x. IsIn x.from) (sym from.2) (link_in s kind from.0)

  unwritten_in : (kind : SocketKind) (default : DefaultValue) (many : Bool) → AllIn (if many then [] else plain_read (at_constant (default_at kind default)) ∷ [])
  unwritten_in kind default true = none_in
  unwritten_in kind default false = one_in (plain_read (at_constant (default_at kind default))) tt

  socket_in : (s : Scope) (d : Declared) (default : DefaultValue) (o : Option Named) → AllIn (option_map_or (λ x. input_reads s way d.shape.kind x.input) o (unwritten d.shape default))
  socket_in s d default None = unwritten_in d.shape.kind default d.shape.many
  socket_in s d default (Some x) = inputs_in s d.shape.kind x.input

  both_in : (xs ys : List Read) → AllIn xs → AllIn ys → AllIn (xs ++ ys)
  both_in xs ys h k r there = elim (has_either xs ys r there) [ inl a ↦ h r a | inr b ↦ k r b ]

  all_in : (s : Scope) (inputs : List Named) (ds : List Declared) (defaults : List DefaultValue) → AllIn (reads_of s way inputs ds defaults)
  all_in s inputs [] defaults = none_in
  all_in s inputs (d ∷ ds) [] = both_in (socket_reads s way inputs d Zero) (reads_of s way inputs ds []) (socket_in s d Zero (find (λ x. bytes_eq d.name x.name) inputs)) (all_in s inputs ds [])
  all_in s inputs (d ∷ ds) (x ∷ xs) = both_in (socket_reads s way inputs d x) (reads_of s way inputs ds xs) (socket_in s d x (find (λ y. bytes_eq d.name y.name) inputs)) (all_in s inputs ds xs)

  pub at_in : (reads : List Read) (i : ℕ) → AllIn reads → IsIn (read_at reads i).from
  at_in [] i h = tt
  at_in (r ∷ rs) zero h = h r (inl refl)
  at_in (r ∷ rs) (suc i) h = at_in rs i (λ q k. h q (inr k))

  out_in : (i : ℕ) (o : Option Body) → IsIn (option_map_or (λ b. read_at (given_out b way) i) o (plain_read nowhere)).from
  out_in i None = tt
  out_in i (Some b) = at_in (given_out b way) i (all_in b.scope b.output (map one_of b.sockets) [])

  -- what the list gives out
  pub outs_in : (t : Tree) (i : ℕ) → IsIn (out_of t way i).from
  outs_in t i = out_in i (body_at t way)

  abbrev pub reads_in : Part → List Read
  reads_in (a_node run) = run.reads
  reads_in (a_group b reads) = reads
  reads_in (a_repeat run b) = run.reads

  by_in : (name : _) (o : Option Body) (run : Run) → AllIn run.reads → AllIn (reads_in (part_by name o run))
  by_in name None run h = h
  by_in name (Some b) run h = by_test (bytes_eq name (codes "group"))
    where
      by_test : (group : Bool) → AllIn (reads_in (if group then a_group b run.reads else a_repeat run b))
      by_test true = h
      by_test false = h

  node_reads_in : (s : Scope) (x : Node) → AllIn (node_reads s way x)
  node_reads_in s (node id kind settings inputs) = all_in s inputs (inputs_of s.groups (node id kind settings inputs)) (map default_of (inputs_of_kind kind))

  part_in_way : (s : Scope) (n : ℕ) (x : Node) → AllIn (reads_in (part_in s way n x))
  part_in_way s n (node id kind settings inputs) = by_in kind (body_in s kind settings) _ (node_reads_in s (node id kind settings inputs))

  -- what a node reads
  pub parts_in : (t : Tree) (n : ℕ) (p : Part) → part_at t way n ≡ Some p → AllIn (reads_in p)
  parts_in t n p e =
      let b = then_some (λ b. option_map (part_in b.scope way n) (node_at b.scope.nodes n)) (body_at t way) p e in
      let x = map_some (part_in b.0.scope way n) (node_at b.0.scope.nodes n) p b.2 in
      subst (λ q. AllIn (reads_in q)) x.2 (part_in_way b.0.scope n x.0)

-- ---- wanted sites

module _ (t : Tree) where
  -- a step goes into a group node without a turn, or into a turn of a repeat
  abbrev Enters : Way → PathStep → Type 0
  Enters way step = ((n : ℕ) × (b : Body) × (reads : List Read) × (step ≡ plain_step n) × (part_at t way n ≡ Some (a_group b reads)))
      ⊎ ((n : ℕ) × (k : ℕ) × (run : Run) × (b : Body) × (step ≡ turn_step n k) × (part_at t way n ≡ Some (a_repeat run b)))

  abbrev pub Opens : Way → Type 0
  Opens the_tree = Unit {0}
  Opens (into way step) = Opens way × Enters way step

  abbrev pub Fits : Site → Type 0
  Fits (at_output way n s) = Opens way
  Fits (at_input way i) = Opens way
  Fits (at_item way n k i) = Opens way × ((run : Run) × (b : Body) × (part_at t way n ≡ Some (a_repeat run b)))
  Fits (at_constant c) = Unit {0}
  Fits nowhere = Unit {0}

  fits_in : (way : Way) (site : Site) → Opens way → IsIn way site → Fits site
  fits_in way (at_output w n s) h e = subst Opens (sym e) h
  fits_in way (at_input w i) h e = subst Opens (sym e) h
  fits_in way (at_item w n k i) h e = absurd e
  fits_in way (at_constant c) h e = tt
  fits_in way nowhere h e = tt

  pub out_fits : (way : Way) (i : ℕ) → Opens way → Fits (out_of t way i).from
  out_fits way i h = fits_in way (out_of t way i).from h (outs_in way t i)

  read_fits : (way : Way) (n : ℕ) (p : Part) (r : Read) → Opens way → part_at t way n ≡ Some p → Has (reads_in way p) r → Fits r.from
  read_fits way n p r h e has = fits_in way r.from h (parts_in way t n p e r has)

  number_fits : (way : Way) (n : ℕ) (p : Part) (i : ℕ) → Opens way → part_at t way n ≡ Some p → Fits (read_at (reads_in way p) i).from
  number_fits way n p i h e = fits_in way (read_at (reads_in way p) i).from h (at_in way (reads_in way p) i (parts_in way t n p e))

  run_reads : (way : Way) (p : Part) (run : Run) → run_in p ≡ Some run → reads_in way p ≡ run.reads
  run_reads way (a_node run) r e = ap (λ x. x.reads) (some_same e)
  run_reads way (a_group b reads) r e = cc
  run_reads way (a_repeat run b) r e = ap (λ x. x.reads) (some_same e)

  run_fits : (site : Site) (run : Run) (r : Read) → Fits site → run_of t site ≡ Some run → Has run.reads r → Fits r.from
  run_fits (at_output way n s) run r h e has =
      let p = then_some run_in (part_at t way n) run e in
      read_fits way n p.0 r h p.1 (subst (λ reads. Has reads r) (sym (run_reads way p.0 run p.2)) has)
  run_fits (at_input way i) run r h e has = cc
  run_fits (at_item way n k i) run r h e has = cc
  run_fits (at_constant c) run r h e has = cc
  run_fits nowhere run r h e has = cc

  -- ---- what is read of all

  head_has : (xs : List Read) (r : Read) → Has (head_of xs) r → Has xs r
  head_has [] r h = h
  head_has (x ∷ xs) r (inl e) = inl e
  head_has (x ∷ xs) r (inr e) = absurd e

  tail_has : (xs : List Read) (r : Read) → Has (tail_of xs) r → Has xs r
  tail_has [] r h = h
  tail_has (x ∷ xs) r h = inr h

  member_has : (xs : List Read) (n : ℕ) (r : Read) → Has (member xs n) r → Has xs r
  member_has [] n r h = h
  member_has (x ∷ xs) zero r (inl e) = inl e
  member_has (x ∷ xs) zero r (inr e) = absurd e
  member_has (x ∷ xs) (suc n) r h = inr (member_has xs n r h)

  chosen_has : (choice : Choice) (xs : List Read) (r : Read) → Has (chosen choice xs) r → Has xs r
  chosen_has (one_case n) xs r h = member_has xs n r h
  chosen_has all_cases xs r h = h
  chosen_has no_case xs r h = absurd h

  first_has : (role : Role) (xs : List Read) (r : Read) → Has (first_read role xs) r → Has xs r
  first_has Plain xs r h = h
  first_has Switch xs r h = head_has xs r h
  first_has File xs r h = h
  first_has Zone xs r h = head_has xs r h

  then_has : (role : Role) (choice : Choice) (xs : List Read) (r : Read) → Has (then_read role choice xs) r → Has xs r
  then_has Plain choice xs r h = absurd h
  then_has Switch choice xs r h = tail_has xs r (chosen_has choice (tail_of xs) r h)
  then_has File choice xs r h = absurd h
  then_has Zone choice xs r h = absurd h

  -- ---- each wanted site fits

  module _ {V : Type 0} (rows : Rows Kind V) (given : Given V) (roots : List Read) (start : (r : Read) → Has roots r → Fits r.from) where
    pub wanted_fits : (site : Site) → Wanted rows given t roots site → Fits site
    wanted_fits site (a_root r h) = start r h
    wanted_fits site (an_input {site = from} run r w e h) = run_fits from run r (wanted_fits from w) e (first_has (rows.role run.kind) run.reads r h)
    wanted_fits site (a_case {site = from} run choice r w e c h) = run_fits from run r (wanted_fits from w) e (then_has (rows.role run.kind) choice run.reads r h)
    wanted_fits site (a_group_output {way} {n} {s} b reads w e) =
        out_fits (into way (plain_step n)) s (wanted_fits (at_output way n s) w, inl (n, b, reads, refl, e))
    wanted_fits site (a_group_input {way} {n} {i} b reads w e) =
        number_fits way n (a_group b reads) i (wanted_fits (at_input (into way (plain_step n)) i) w).0 e
    wanted_fits site (a_result {way} {n} {s} run b v w e g) = (wanted_fits (at_output way n s) w, (run, b, e))
    wanted_fits site (a_first_item {way} {n} {i} run b w e) = number_fits way n (a_repeat run b) (suc i) (wanted_fits (at_item way n zero i) w).0 e
    wanted_fits site (a_later_item {way} {n} {k} {i} w) =
        let h = wanted_fits (at_item way n (suc k) i) w in
        out_fits (into way (turn_step n k)) i (h.0, inr (n, k, h.1.0, h.1.1, refl, h.1.2))
    wanted_fits site (an_item {way} {n} {k} {i} run b w e) = ((wanted_fits (at_input (into way (turn_step n k)) (suc i)) w).0, (run, b, e))
