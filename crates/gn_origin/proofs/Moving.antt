-- What a step of a walk has when it has gone on.
use Rattle.std.proofs.Common.{◌≡◌, ◌++◌, ℕ, List, ◌∷◌, map, Option, Some, None, Result, Ok, Err, IfOk, sym, ◌∙◌, ap, subst}
use Rattle.gn_tree.specs.Seen.{tree_of, socket_of}
use Rattle.gn_tree.specs.Trees.{Named}
use Rattle.gn_tree.specs.declared.tree.Socket.{Socket as CodeSocket}
use Rattle.gn_tree.specs.Nodes.{inputs_in}
use Rattle.gn_meaning.specs.Bodies.{Body, body_at}
use Rattle.gn_meaning.specs.Origins.{read_origin}
use Rattle.gn_origin.specs.declared.list.List.{List as CodeList}
use Rattle.gn_origin.specs.declared.walk.Frame.{Frame}
use Rattle.gn_origin.specs.declared.read.Site.TheVariants as site
use Rattle.gn_origin.specs.Reading as by_list
use Rattle.gn_origin.proofs.Ways.{inner, opened_body, goes_in, goes_out, out_read, in_read}
use denote.Ref.{Bor}
use Rattle.gn_meaning.specs.Sites as sites
use Rattle.gn_meaning.specs.Reads.{kind_number}
use Rattle.gn_rules.specs.Rules.{KeepsRules}
use Rattle.gn_meaning.specs.Forms.{HasForm}
use Rattle.gn_meaning.specs.Sites.{Read}
use Rattle.gn_origin.specs.declared.read.Read.{Read as CodeRead}
use Rattle.gn_origin.specs.declared.walk.Walk.{Walk}
use Rattle.gn_origin.specs.declared.walk.Progress.{Progress}
use Rattle.gn_origin.specs.Constants.{kinds_of}
use Rattle.gn_origin.specs.Nodes.{HasGroups, group_in}
use Rattle.gn_origin.specs.Frames.{Frames, way_of, site_of, AreOpen, IsThere}
use Rattle.gn_origin.specs.Reading.{IsElsewhere, IsAt, IsRead, named_read}
use Rattle.gn_origin.specs.Walking.{tree_by, read_by, Stands, Leads, GoesOn, Steps}
use Rattle.gn_origin.proofs.Steps.{GivenOn, given_on}

abbrev kinds_by : Walk → List ℕ
kinds_by w = map kind_number w.conversions.items

pub goes_on : (old mid new : Walk) → Stands old → (from : sites.Site) (fs : Frames) → site_of (way_of old.frames.items) old.site ≡ from → AreOpen (tree_by old) fs
    → mid.lists ≡ old.lists → mid.frames.items ≡ fs → kinds_by mid ≡ kinds_by old → (read : Option CodeRead) → GivenOn (tree_by old) from (kinds_by old) fs read
    → (progress : Progress) → GoesOn mid new read progress → Steps old new progress
goes_on old mid new stands from fs at ways lists frames kinds None given progress on =
    subst (Steps old new) (sym on) (subst (λ s. IsElsewhere (tree_by old) (record { from = s; through = kinds_by old })) (sym at) given)
goes_on old mid new stands from fs at ways lists frames kinds (Some c) given progress (moved, same, stays, site, more) =
    let lists_too : new.lists ≡ old.lists = same ∙ lists in
    let frames_too : new.frames.items ≡ fs = stays ∙ frames in
    let kinds_too : kinds_by new ≡ kinds_of c.conversion ++ kinds_by old = more ∙ ap (λ ks. kinds_of c.conversion ++ ks) kinds in
    let there : read_by new ≡ record { from = site_of (way_of fs) c.site; through = kinds_of c.conversion ++ kinds_by old } = λ i. record { from = site_of (way_of (frames_too i)) (site i); through = kinds_too i } in
    let leads : Leads (tree_by old) (read_by old) (read_by new) = subst (λ s. Leads (tree_by old) (record { from = s; through = kinds_by old }) (read_by new)) (sym at) (subst (Leads (tree_by old) (record { from = from; through = kinds_by old })) (sym there) given.0) in
    subst (Steps old new) (sym moved) (
      lists_too,
      leads,
      record {
        keeps = subst (λ l. KeepsRules (tree_of l.now.tree.now)) (sym lists_too) stands.keeps;
        form = subst (λ l. HasForm (tree_of l.now.tree.now)) (sym lists_too) stands.form;
        groups = subst (λ l. HasGroups l.now) (sym lists_too) stands.groups;
        ways = subst (λ l. AreOpen (tree_of l.now.tree.now) new.frames.items) (sym lists_too) (subst (AreOpen (tree_by old)) (sym frames_too) ways);
        there = subst (λ l. IsThere (tree_of l.now.tree.now) new.frames.items new.site) (sym lists_too) (subst (λ fs. IsThere (tree_by old) fs new.site) (sym frames_too) (subst (IsThere (tree_by old) fs) (sym site) given.1));
      },
    )

pub on_ok : {X E : Type 0} {P Q : X → Type 0} (r : Result X E) → ((x : X) → P x → Q x) → IfOk r P → IfOk r Q
on_ok (Ok x) f h = f x h
on_ok (Err e) f h = h

one_body : (a b : Body) → Some a ≡ Some b → a ≡ b
one_body a b e = cc

-- going into a group node, and out of one
pub entered : (old : Walk) → Stands old → (f : Frame) (o : ℕ) (x : Bor CodeSocket) → old.site ≡ site.Group f o x → (l : CodeList) → l.lists.now ≡ old.lists.now → (gs : Frames) → gs ≡ f ∷ old.frames.items → IsAt l gs
    → (xs : List Named) → xs ≡ (group_in f.group.now).output → (read : Option CodeRead) → ((hs : Frames) (at : IsAt l hs) → IsRead (by_list.tree_by l) hs read (named_read at.body.scope (way_of hs) xs (socket_of x.now).name x.now.kind (sites.zero_at x.now.kind)))
    → GivenOn (tree_by old) (sites.at_output (way_of old.frames.items) f.number o) (kinds_by old) (f ∷ old.frames.items) read
entered old stands f o x at l lists gs same ends xs written read reads =
    let t = tree_by old in
    let fs = old.frames.items in
    let k = x.now.kind in
    let there : IsThere (tree_by old) old.frames.items (site.Group f o x) = subst (IsThere (tree_by old) old.frames.items) at stands.there in
    let b = inner t (way_of fs) f there.0 in
    let here : IsAt l (f ∷ old.frames.items) = subst (IsAt l) same ends in
    let first = subst (λ v. IsRead (tree_of v.tree.now) (f ∷ fs) read (named_read here.body.scope (way_of (f ∷ fs)) xs (socket_of x.now).name k (sites.zero_at k))) lists (reads (f ∷ fs) here) in
    let leads : body_at (tree_by old) (way_of (f ∷ old.frames.items)) ≡ Some here.body = subst (λ v. body_at (tree_of v.tree.now) (way_of (f ∷ old.frames.items)) ≡ Some here.body) lists here.leads in
    let second = subst (λ c. IsRead t (f ∷ fs) read (named_read c.scope (way_of (f ∷ fs)) xs (socket_of x.now).name k (sites.zero_at k))) (one_body here.body b (sym leads ∙ opened_body t (way_of fs) f there.0)) first in
    let third = subst (λ ys. IsRead t (f ∷ fs) read (named_read b.scope (way_of (f ∷ fs)) ys (socket_of x.now).name k (sites.zero_at k))) written second in
    given_on t (sites.at_output (way_of fs) f.number o) (kinds_by old) (named_read b.scope (way_of (f ∷ fs)) (group_in f.group.now).output (socket_of x.now).name k (sites.zero_at k)) (f ∷ fs) read
    (λ origin. goes_in t (way_of fs) f there.0 o origin ∙ ap (read_origin t origin) (out_read t stands.keeps stands.form fs stands.ways f there.0 o (socket_of x.now) there.1)) third

pub left : (old : Walk) → Stands old → (f : Frame) (fs : Frames) → old.frames.items ≡ f ∷ fs → (i : ℕ) (x : Bor CodeSocket) → old.site ≡ site.Entry i x → (l : CodeList) → l.lists.now ≡ old.lists.now → (gs : Frames) → gs ≡ fs → IsAt l gs
    → (xs : List Named) → xs ≡ inputs_in f.node.now → (read : Option CodeRead) → ((hs : Frames) (at : IsAt l hs) → IsRead (by_list.tree_by l) hs read (named_read at.body.scope (way_of hs) xs (socket_of x.now).name x.now.kind (sites.zero_at x.now.kind)))
    → GivenOn (tree_by old) (sites.at_input (way_of (f ∷ fs)) i) (kinds_by old) fs read
left old stands f fs frames i x at l lists gs same ends xs written read reads =
    let t = tree_by old in
    let k = x.now.kind in
    let ways : AreOpen (tree_by old) (f ∷ fs) = subst (AreOpen (tree_by old)) frames stands.ways in
    let there : IsThere (tree_by old) (f ∷ fs) (site.Entry i x) = subst (λ hs. IsThere (tree_by old) hs (site.Entry i x)) frames (subst (IsThere (tree_by old) old.frames.items) at stands.there) in
    let b = ways.0.outer in
    let here : IsAt l fs = subst (IsAt l) same ends in
    let first = subst (λ v. IsRead (tree_of v.tree.now) fs read (named_read here.body.scope (way_of fs) xs (socket_of x.now).name k (sites.zero_at k))) lists (reads fs here) in
    let leads : body_at (tree_by old) (way_of fs) ≡ Some here.body = subst (λ v. body_at (tree_of v.tree.now) (way_of fs) ≡ Some here.body) lists here.leads in
    let second = subst (λ c. IsRead t fs read (named_read c.scope (way_of fs) xs (socket_of x.now).name k (sites.zero_at k))) (one_body here.body b (sym leads ∙ ways.0.leads)) first in
    let third = subst (λ ys. IsRead t fs read (named_read b.scope (way_of fs) ys (socket_of x.now).name k (sites.zero_at k))) written second in
    given_on t (sites.at_input (way_of (f ∷ fs)) i) (kinds_by old) (named_read b.scope (way_of fs) (inputs_in f.node.now) (socket_of x.now).name k (sites.zero_at k)) fs read
    (λ origin. goes_out t (way_of fs) f ways.0 i origin ∙ ap (read_origin t origin) (in_read t stands.keeps stands.form fs ways.1 f ways.0 i (socket_of x.now) there)) third
