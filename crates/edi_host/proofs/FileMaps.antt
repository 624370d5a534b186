-- The map of files that contracts see, beside the map that the code has.
use Rattle.std.proofs.Common.{◌≡◌, ℕ, List, [], ◌∷◌, Bool, true, false, cond, Option, Some, map, option_map, String, Vec, refl, ap, sym, ◌∙◌}
use Rattle.std.specs.declared.alloc.Global.{Global}
use Rattle.std.specs.Ordering.{nat_cmp, eq_by_cmp}
use Rattle.std.specs.Cmp.Lexicographic.{slice_cmp}
use Rattle.std.specs.String.{string_bytes, string_cmp}
use Rattle.std.specs.Str.{bytes_eq}
use Rattle.std.specs.Map.{lookup}
use Rattle.std.specs.BTreeMap.{BTreeMap, is_at, get_by_text, UpdatesBy}
use Rattle.std.specs.FinMap as files
use Rattle.std.specs.FinMap.{slice_cmp-IsAntisymmetric, nat_cmp-IsAntisymmetric}
use Rattle.std.specs.Cmp.{eq_by_cmp_equiv}
use Rattle.std.proofs.lemmas.Cmp.{nat_list_cmp_total}
use Rattle.std.proofs.lemmas.Map.Text.{is_eq-slice_cmp, btree_map_updates_text, text_cmp}
use Rattle.edi_host.specs.Contents.{Contents}
use Rattle.edi_host.specs.Forms.{entry_of, contents_in}

abbrev Entry : Type 0
Entry = (String Global) × (Vec ℕ Global)

-- the choice of a file is the choice of its bytes
option_map-cond : (b : Bool) (v : Vec ℕ Global) (o : Option (Vec ℕ Global)) → cond b (Some v.items) (option_map (λ v. v.items) o) ≡ option_map (λ v. v.items)
    (cond b (Some v) o)
option_map-cond true v o = refl
option_map-cond false v o = refl

find-entries : (q : List ℕ) (es : List Entry) → files.find (slice_cmp nat_cmp) q (map entry_of es) ≡ option_map (λ v. v.items) (lookup (is_at (text_cmp q)) es)
find-entries q [] = refl
find-entries q (e ∷ es) = ap (cond (eq_by_cmp (slice_cmp nat_cmp) q (string_bytes e.0)) (Some e.1.items)) (find-entries q es)
    ∙ option_map-cond (eq_by_cmp (slice_cmp nat_cmp) q (string_bytes e.0)) e.1 (lookup (is_at (text_cmp q)) es)

-- a name is looked up in the one map as in the other
pub get-contents_in : (m : BTreeMap (String Global) (Vec ℕ Global)) (q : List ℕ) → files.get (contents_in m.entries) q ≡ option_map (λ v. v.items)
    (get_by_text m q)
get-contents_in m q = files.get-from_entries nat_list_cmp_total _ q ∙ find-entries q m.entries

-- a file that the code's map has got is one that the map of contracts has got
contents_in-updated : (name : String Global) (bytes : Vec ℕ Global) (old new : BTreeMap (String Global) (Vec ℕ Global))
    → UpdatesBy string_cmp (string_cmp name) old new (Some bytes) → contents_in new.entries ≡ files.insert (contents_in old.entries) (string_bytes name)
    bytes.items
contents_in-updated name bytes old new updates =
    files.same_map nat_list_cmp_total (slice_cmp-IsAntisymmetric nat_cmp-IsAntisymmetric) _ _ (λ q.
    get-contents_in new q
    ∙ ap (option_map (λ v. v.items)) (btree_map_updates_text (string_bytes name) old new (Some bytes) updates q)
    ∙ sym (option_map-cond (bytes_eq (string_bytes name) q) bytes (get_by_text old q))
    ∙ ap (λ o. cond (bytes_eq (string_bytes name) q) (Some bytes.items) o) (sym (get-contents_in old q))
    ∙ ap (λ b. cond b (Some bytes.items) (files.get (contents_in old.entries) q))
    (sym (is_eq-slice_cmp (string_bytes name) q) ∙ (eq_by_cmp_equiv nat_list_cmp_total).symm (string_bytes name) q)
    ∙ sym (files.get-insert nat_list_cmp_total (contents_in old.entries) (string_bytes name) bytes.items q))

-- the same where the files before, the name and the bytes are known by other terms
pub inserted : (name : String Global) (bytes : Vec ℕ Global) (old new : BTreeMap (String Global) (Vec ℕ Global)) (contents : Contents) (text content : List ℕ)
    → UpdatesBy string_cmp (string_cmp name) old new (Some bytes) → contents_in old.entries ≡ contents → string_bytes name ≡ text → bytes.items ≡ content
    → contents_in new.entries ≡ files.insert contents text content
inserted name bytes old new contents text content updates was named filled =
    contents_in-updated name bytes old new updates
    ∙ ap (λ h. files.insert h (string_bytes name) bytes.items) was
    ∙ ap (λ n. files.insert contents n bytes.items) named
    ∙ ap (λ b. files.insert contents text b) filled
