-- Looking sockets up by a list of their names.
use Rattle.std.proofs.Common.{◌≡◌, ℕ, suc, ◌+◌, ◌<◌, Bool, true, false, cond, List, [], ◌∷◌, ◌++◌, length, get_or, map, Some, None, bytes_eq, refl, ap, ◌∙◌, arith}
use Rattle.std.proofs.lemmas.List.{length-map}
use Rattle.std.proofs.Math.ListN.{get_or-map}
use Rattle.gn_tree.specs.Seen.{socket_of}
use Rattle.gn_tree.specs.declared.tree.Socket.{Socket as CodeSocket}
use Rattle.std.specs.List.{position_from}
use Rattle.std.specs.Option.{option_or}
use Rattle.gn_kinds.specs.Row.{Text}
use Rattle.gn_names.specs.First.{first_of}
use Rattle.gn_tree.specs.Trees.{Socket, Node, node, Group}
use Rattle.gn_tree.specs.Nodes.{kind_in, settings_in}
use Rattle.gn_rules.specs.Sockets.{Declared, single, one_of, declared, chosen, further, inputs_of, outputs_of, inputs_of_kind, outputs_of_kind, input_of_row, output_of_row}
use Rattle.gn_rules.specs.Things.{socket_names}

-- the number is that of the first one with the name, counted from i
at_number : (name : Text) (i : ℕ) (x : Socket) (xs : List Socket) (n : ℕ) (d : Socket) (b : Bool) → bytes_eq name x.name ≡ b
    → (position_from (bytes_eq name) (i + 1) (socket_names xs) ≡ Some n → (m : ℕ) × (n ≡ (i + 1) + m) × (m < length xs) × (declared (map one_of xs) name ≡ Some (single (get_or xs m d).kind)))
    → cond b (Some i) (position_from (bytes_eq name) (i + 1) (socket_names xs)) ≡ Some n
    → (m : ℕ) × (n ≡ i + m) × (m < length (x ∷ xs)) × (declared (map one_of (x ∷ xs)) name ≡ Some (single (get_or (x ∷ xs) m d).kind))
at_number name i x xs n d true e go h = (0, (let same : i ≡ n = cc in omega arith), omega arith, rw e)
at_number name i x xs n d false e go h = let found = go h in (suc found.0, omega (arith, found.1), omega (arith, found.2), rw e found.3)

numbered : (name : Text) (i : ℕ) (xs : List Socket) (n : ℕ) (d : Socket) → position_from (bytes_eq name) i (socket_names xs) ≡ Some n
    → (m : ℕ) × (n ≡ i + m) × (m < length xs) × (declared (map one_of xs) name ≡ Some (single (get_or xs m d).kind))
numbered name i [] n d h = absurd (cc)
numbered name i (x ∷ xs) n d h = at_number name i x xs n d (bytes_eq name x.name) refl (numbered name (i + 1) xs n d) h

-- the first of the names is that of the socket which is found
pub found_by_number : (xs : List Socket) (name : Text) (n : ℕ) (d : Socket) → first_of (socket_names xs) name ≡ Some n → (n < length xs) × (declared (map one_of xs) name ≡ Some (single (get_or xs n d).kind))
found_by_number xs name n d h =
    let found = numbered name 0 xs n d h in
    let same : n ≡ found.0 = omega (arith, found.1) in
    (omega (arith, found.1, found.2), rw same found.3)

none_at : (name : Text) (i : ℕ) (x : Socket) (xs : List Socket) (b : Bool) → bytes_eq name x.name ≡ b → (position_from (bytes_eq name) (i + 1) (socket_names xs) ≡ None → declared (map one_of xs) name ≡ None)
    → cond b (Some i) (position_from (bytes_eq name) (i + 1) (socket_names xs)) ≡ None → declared (map one_of (x ∷ xs)) name ≡ None
none_at name i x xs true e go h = absurd (cc)
none_at name i x xs false e go h = rw e (go h)

not_numbered : (name : Text) (i : ℕ) (xs : List Socket) → position_from (bytes_eq name) i (socket_names xs) ≡ None → declared (map one_of xs) name ≡ None
not_numbered name i [] h = refl
not_numbered name i (x ∷ xs) h = none_at name i x xs (bytes_eq name x.name) refl (not_numbered name (i + 1) xs) h

pub not_found : (xs : List Socket) (name : Text) → first_of (socket_names xs) name ≡ None → declared (map one_of xs) name ≡ None
not_found xs name h = not_numbered name 0 xs h

-- the same of the sockets as the code has them
pub found_in : (xs : List CodeSocket) (name : Text) (n : ℕ) (d : CodeSocket) → first_of (socket_names (map socket_of xs)) name ≡ Some n → (n < length xs) × (declared (map one_of (map socket_of xs)) name ≡ Some (single (get_or xs n d).kind))
found_in xs name n d h =
    let found = found_by_number (map socket_of xs) name n (socket_of d) h in
    let same : get_or (map socket_of xs) n (socket_of d) ≡ socket_of (get_or xs n d) = get_or-map socket_of xs n d in
    (simp length-map at found.0, found.1 ∙ ap (λ x. Some (single x.kind)) same)

append_at : (name : Text) (d : Declared) (xs ys : List Declared) (b : Bool) → bytes_eq name d.name ≡ b → declared (xs ++ ys) name ≡ option_or (declared xs name) (declared ys name)
    → declared (d ∷ (xs ++ ys)) name ≡ option_or (declared (d ∷ xs) name) (declared ys name)
append_at name d xs ys true e h = rw e
append_at name d xs ys false e h = rw e h

-- a socket is looked for in the first list, and then in the second
pub declared_append : (xs ys : List Declared) (name : Text) → declared (xs ++ ys) name ≡ option_or (declared xs name) (declared ys name)
declared_append [] ys name = refl
declared_append (d ∷ xs) ys name = append_at name d xs ys (bytes_eq name d.name) refl (declared_append xs ys name)

pub outputs_append : (gs : List Group) (n : Node) (name : Text)
    → declared (outputs_of gs n) name ≡ option_or (declared (map (output_of_row (chosen (settings_in n))) (outputs_of_kind (kind_in n))) name) (declared (map one_of (further (λ g. g.outputs) gs (settings_in n))) name)
outputs_append gs (node id kind set inputs) name = declared_append (map (output_of_row (chosen set)) (outputs_of_kind kind)) (map one_of (further (λ g. g.outputs) gs set)) name

pub inputs_seen : (gs : List Group) (n : Node) → inputs_of gs n ≡ map (input_of_row (chosen (settings_in n))) (inputs_of_kind (kind_in n)) ++ map one_of (further (λ g. g.inputs) gs (settings_in n))
inputs_seen gs (node id kind set inputs) = refl
