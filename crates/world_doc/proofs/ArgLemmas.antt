-- The contents of an argument, found one after another.
use Rattle.std.proofs.Common.{◌≡◌, List, [], ◌∷◌, Option, Err, refl, ap, ◌∙◌, subst}
use Rattle.std.specs.Prelude.{codes}
use Rattle.std.specs.Borrow.{Bor}
use Rattle.serde_json.specs.Data.{Data}
use Rattle.serde_json.specs.Find.{get, get_member}
use Rattle.serde_json.specs.View.{view}
use Rattle.serde_json.specs.declared.value.Value.{Value as Json}
use Rattle.flow_labels.specs.TwoLists.{Text}
use Rattle.lam_value.specs.declared.names.Name.{Name}
use Rattle.lam_value.specs.declared.values.Value.{Value}
use Rattle.world_doc_terms.specs.Breaks.{BadMember, Reading}
use Rattle.world_doc_terms.specs.Entries.{if_there, the_only}
use Rattle.world_doc_stores.specs.Seen.{members}
use Rattle.world_doc_stores.proofs.MemberLemmas.{get_members}
use Rattle.world_doc.specs.Found.{read_as, one_more, IsFound}
use Rattle.world_doc.specs.declared.args.ContentKind.{ContentKind}
use Rattle.world_doc.specs.declared.args.Contents.{Contents}
use Rattle.world_doc.specs.declared.args.Contents.TheVariants.{Nothing, One, More}

module _ (names : List Text) (called : List (Text × Name)) where
  pub found_one_more : (kind : ContentKind) (value : Bor Json) (rest : Contents) (rs : List (Reading Value)) → IsFound names called rest rs → IsFound names called (one_more kind value rest) (read_as names called kind (view value.now) ∷ rs)
  found_one_more kind value Nothing rs h = ap (λ (rest : List (Reading Value)). read_as names called kind (view value.now) ∷ rest) h
  found_one_more kind value (One other found) rs h =
      (read_as names called kind (view value.now), read_as names called other (view found.now), [], ap (λ (rest : List (Reading Value)). read_as names called kind (view value.now) ∷ rest) h)
  found_one_more kind value More rs h =
      (read_as names called kind (view value.now), h.0, h.1 ∷ h.2, ap (λ (rest : List (Reading Value)). read_as names called kind (view value.now) ∷ rest) h.3)

  pub one_is : (kind : ContentKind) (value : Bor Json) (rs : List (Reading Value)) → IsFound names called (One kind value) rs → the_only rs ≡ read_as names called kind (view value.now)
  one_is kind value rs h = ap the_only h

  pub none_is : (rs : List (Reading Value)) → IsFound names called Nothing rs → the_only rs ≡ Err (BadMember (codes "args"))
  none_is rs h = ap the_only h

  pub more_is : (rs : List (Reading Value)) → IsFound names called More rs → the_only rs ≡ Err (BadMember (codes "args"))
  more_is rs h = ap the_only h.3

  -- one more content
  pub found_more : (kind : ContentKind) (name : Text) (d : Data) (o : Option Data) (c : Contents) (rs : List (Reading Value)) → o ≡ get name d → IsFound names called c (if_there (read_as names called kind) o rs) → IsFound names called c (if_there (read_as names called kind) (get_member name (members d)) rs)
  found_more kind name d o c rs is h = subst (λ (o : Option Data). IsFound names called c (if_there (read_as names called kind) o rs)) (is ∙ get_members name d) h

  -- what was found is not one
  pub not_one : (c : Contents) (rs : List (Reading Value)) → ((kind : ContentKind) (value : Bor Json) → c ≡ One kind value → ⊥) → IsFound names called c rs → the_only rs ≡ Err (BadMember (codes "args"))
  not_one Nothing rs other h = none_is rs h
  not_one (One kind value) rs other h = absurd (other kind value refl)
  not_one More rs other h = more_is rs h
