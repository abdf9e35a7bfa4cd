-- A member is no larger than its list.
use Rattle.std.proofs.Common.{◌≡◌, ℕ, zero, suc, ◌+◌, ◌<◌, ◌≤◌, List, [], ◌∷◌, length, get_or, sym, subst, arith}
use Rattle.gn_tree.specs.Trees.{Node, node_size, Settings, settings_size, nodes_size, no_settings}
use Rattle.gn_tree.specs.Seen.{setting_then, settings_of, nodes_of}
use Rattle.gn_tree.specs.declared.tree.Setting.{Setting}
use Rattle.gn_tree.specs.declared.tree.Setting.TheVariants as s

pub node_within : (xs : List Node) (i : ℕ) (x d : Node) → i < length xs → x ≡ get_or xs i d → node_size x ≤ nodes_size (nodes_of xs)
node_within [] i x d h e = absurd (omega arith)
node_within (y ∷ ys) zero x d h e = subst (λ n. node_size n ≤ node_size y + nodes_size (nodes_of ys)) (sym e) (omega arith)
node_within (y ∷ ys) (suc i) x d h e = omega (arith, node_within ys i x d (omega arith) e)

setting_more : (x : Setting) (rest : Settings) → settings_size (setting_then x rest) ≡ settings_size (setting_then x no_settings) + settings_size rest
setting_more (s.Zone zone) rest = omega arith
setting_more (s.Of x) rest = omega arith
setting_more (s.Op x) rest = omega arith
setting_more (s.Place x) rest = omega arith
setting_more (s.Clamp x) rest = omega arith
setting_more (s.Name x) rest = omega arith
setting_more (s.File x) rest = omega arith
setting_more (s.Value x) rest = omega arith
setting_more (s.Group x) rest = omega arith

pub setting_within : (xs : List Setting) (i : ℕ) (x d : Setting) → i < length xs → x ≡ get_or xs i d → settings_size (setting_then x no_settings) ≤ settings_size (settings_of xs)
setting_within [] i x d h e = absurd (omega arith)
setting_within (y ∷ ys) zero x d h e = subst (λ n. settings_size (setting_then n no_settings) ≤ settings_size (settings_of (y ∷ ys))) (sym e) (omega (arith, setting_more y (settings_of ys)))
setting_within (y ∷ ys) (suc i) x d h e = omega (arith, setting_within ys i x d (omega arith) e, setting_more y (settings_of ys))
