-- A text that is not UTF-8, or no JSON, is no document.
use Rattle.std.proofs.Common.{◌≡◌, ℕ, Bool, true, false, cond, List, Option, Some, None, Ok, Err, refl, sym, ap, ◌∙◌}
use Rattle.std.specs.Str.{IsUtf8, is_utf8}
use Rattle.std.proofs.lemmas.Str.{IsUtf8-from_is_utf8, is_utf8-from_IsUtf8}
use Rattle.serde_json.specs.Data.{Data}
use Rattle.serde_json.specs.Read.{read}
use Rattle.lam_bytecode.specs.Codes.{CodeTree}
use Rattle.world_doc_terms.specs.Breaks.{NotJson, ◌>>=◌}
use Rattle.world_doc_terms.specs.Start.{start_of, world_of, world_or}
use Rattle.world_doc_stores.specs.declared.fault.WorldFault.{WorldFault}
use Rattle.world_doc_stores.specs.Meaning.{Fails}
use Rattle.world_doc_stores.proofs.Steps.{fails_here, fails_same}
use Rattle.world_doc.specs.Document.{document_or}

not_utf8 : (bs : List ℕ) (b : Bool) → is_utf8 bs ≡ b → (IsUtf8 bs → ⊥) → b ≡ false
not_utf8 bs true e h = absurd (h (IsUtf8-from_is_utf8 bs e))
not_utf8 bs false e h = refl

pub no_text : (bs : List ℕ) (code : CodeTree) → (IsUtf8 bs → ⊥) → start_of bs code ≡ Err NotJson
no_text bs code h = ap (λ (b : Bool). world_or (cond b (read bs) None) code) (not_utf8 bs (is_utf8 bs) refl h)

pub a_text : (bs t : List ℕ) (code : CodeTree) → t ≡ bs → IsUtf8 bs → world_or (read t) code ≡ start_of bs code
a_text bs t code same h = ap (λ (t : List ℕ). world_or (read t) code) same ∙ sym (ap (λ (b : Bool). world_or (cond b (read bs) None) code) (is_utf8-from_IsUtf8 bs h))

-- the document, and then its members
by_document : (o : Option Data) (code : CodeTree) → world_or o code ≡ (document_or o >>= λ d. world_of d code)
by_document None code = refl
by_document (Some d) code = refl

pub no_document : (e : WorldFault) (o : Option Data) (code : CodeTree) → Fails e (document_or o) → Fails e (world_or o code)
no_document e o code h = fails_same (sym (by_document o code)) (fails_here e (document_or o) (λ d. world_of d code) h)

pub of_document : (o : Option Data) (code : CodeTree) (d : Data) → document_or o ≡ Ok d → world_of d code ≡ world_or o code
of_document o code d is = sym (by_document o code ∙ ap (λ r. r >>= λ d. world_of d code) is)
