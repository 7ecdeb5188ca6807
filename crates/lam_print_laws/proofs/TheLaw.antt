-- The canonical tokens of a tree are read as the same tree.
use Rattle.std.proofs.Common.{◌≡◌, List, [], ◌∷◌, ◌++◌, map, chars, slice_get, refl, sym, ap, ◌∙◌}
use Rattle.lam_syntax.specs.Tree.{ProgramTree}
use Rattle.lam_lexer.specs.declared.token.Token.{Token}
use Rattle.lam_lexer.specs.declared.token.TokenKind.TheVariants as Kind
use Rattle.lam_lexer.specs.Lexed.{Lexed}
use Rattle.lam_lexer.proofs.Laws.{lexed_once}
use Rattle.lam_grammar.specs.Meaning.{nothing, word, items_value}
use Rattle.lam_grammar.specs.Program.{lam, program}
use Rattle.lam_grammar.specs.Examples.{examples}
use Rattle.lam_grammar.proofs.Passes.{sound}
use Rattle.lam_print.specs.Pieces.{kinds}
use Rattle.lam_print.specs.Canon.{pieces, canon}
use Rattle.lam_print.specs.Law.{kind_of}
use Rattle.lam_print_laws.proofs.Whole.{read_again}
use Rattle.lam_print_laws.specs.Law.{TreeLaw, WayRound}
use Rattle.lam_print_laws.proofs.Spans.{spelt}
use Rattle.lam_print_laws.proofs.Marks.{ended, ended_is, all_here}
use Rattle.lam_print_laws.proofs.Items.{ReadyProgram, Whole, a_program}
use Rattle.lam_print_laws.proofs.Ready.{spelt_ready}

-- whatever the sum
read_back : (p : ProgramTree) (tokens : List Token) → ReadyProgram p → map kind_of tokens ≡ kinds (pieces p) ++ Kind.End ∷ [] → Whole (slice_get tokens) p
read_back p tokens q e = a_program (slice_get tokens) p q (all_here tokens (ended (pieces p)) (e ∙ sym (ended_is (pieces p))))

pub tree_law : TreeLaw
tree_law p others tokens s e n =
    let r : Whole (slice_get tokens) p = read_back p tokens (spelt_ready others p s) e in
    record {
      tree = r.tree;
      spelt = (r.w, spelt lam examples sound program nothing tokens (items_value r.tree ∷ word r.w ∷ []) r.end refl r.spans r.last n);
      same = r.same;
    }

-- The canonical text has the tokens of its pieces, and no others.
canonical_kinds : (p : ProgramTree) (tokens : List Token) → ((again : List Token) × Lexed (chars (canon p)) again × (map kind_of again ≡ kinds (pieces p) ++ Kind.End ∷ [])) → Lexed (chars (canon p)) tokens → map kind_of tokens ≡ kinds (pieces p) ++ Kind.End ∷ []
canonical_kinds p tokens a l = ap (map kind_of) (lexed_once l a.1) ∙ a.2

pub way_round : WayRound
way_round text others p h tokens l n = tree_law p others tokens h.spelt (canonical_kinds p tokens (read_again text others p h) l) n
