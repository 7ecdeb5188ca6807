-- Lists of names that were read in part, and with which tokens names with their types begin.
use Rattle.std.proofs.Common.{◌≡◌, Option, Some, None, List, [], ◌∷◌, ◌++◌, refl, sym, ap, ◌∙◌}
use Rattle.lam_grammar_laws.specs.Stopping.{begins_next}
use Rattle.lam_lexer.specs.declared.token.Token.{Token}
use Rattle.lam_syntax.specs.declared.Id.{Id}
use Rattle.lam_syntax.specs.declared.Var.{Var}
use Rattle.lam_syntax.specs.Tree.{IdTree, VarTree, id_tree, ids_tree, var_tree, vars_tree}
use Rattle.lam_grammar.specs.Table.{variable, fields}
use Rattle.lam_grammar.specs.Program.{lam}
use Rattle.lam_parser_tokens.specs.declared.marks.Mark.TheVariants as m
use Rattle.lam_parser_tokens.specs.Classes.{fits_at}

abbrev pub ids_before : List Id → List IdTree → List IdTree
ids_before [] rest = rest
ids_before (x ∷ xs) rest = id_tree x ∷ ids_before xs rest

pub ids_pushed : (xs : List Id) (x : Id) (rest : List IdTree) → ids_before xs (id_tree x ∷ rest) ≡ ids_before (xs ++ x ∷ []) rest
ids_pushed [] x rest = refl
ids_pushed (y ∷ xs) x rest = ap (λ ys. id_tree y ∷ ys) (ids_pushed xs x rest)

pub ids_more : (xs ys : List Id) (x : Id) (rest : List IdTree) → ys ≡ xs ++ x ∷ [] → ids_before xs (id_tree x ∷ rest) ≡ ids_before ys rest
ids_more xs ys x rest e = ids_pushed xs x rest ∙ ap (λ zs. ids_before zs rest) (sym e)

pub ids_first : (xs ys : List Id) (x : Id) (rest : List IdTree) → xs ≡ [] → ys ≡ xs ++ x ∷ [] → id_tree x ∷ rest ≡ ids_before ys rest
ids_first xs ys x rest none e = ap (λ zs. ids_before (zs ++ x ∷ []) rest) (sym none) ∙ ap (λ zs. ids_before zs rest) (sym e)

pub ids_whole : (xs : List Id) → ids_before xs [] ≡ ids_tree xs
ids_whole [] = refl
ids_whole (x ∷ xs) = ap (λ ys. id_tree x ∷ ys) (ids_whole xs)

abbrev pub vars_before : List Var → List VarTree → List VarTree
vars_before [] rest = rest
vars_before (x ∷ xs) rest = var_tree x ∷ vars_before xs rest

pub vars_pushed : (xs : List Var) (x : Var) (rest : List VarTree) → vars_before xs (var_tree x ∷ rest) ≡ vars_before (xs ++ x ∷ []) rest
vars_pushed [] x rest = refl
vars_pushed (y ∷ xs) x rest = ap (λ ys. var_tree y ∷ ys) (vars_pushed xs x rest)

pub vars_more : (xs ys : List Var) (x : Var) (rest : List VarTree) → ys ≡ xs ++ x ∷ [] → vars_before xs (var_tree x ∷ rest) ≡ vars_before ys rest
vars_more xs ys x rest e = vars_pushed xs x rest ∙ ap (λ zs. vars_before zs rest) (sym e)

pub vars_first : (xs ys : List Var) (x : Var) (rest : List VarTree) → xs ≡ [] → ys ≡ xs ++ x ∷ [] → var_tree x ∷ rest ≡ vars_before ys rest
vars_first xs ys x rest none e = ap (λ zs. vars_before (zs ++ x ∷ []) rest) (sym none) ∙ ap (λ zs. vars_before zs rest) (sym e)

pub vars_whole : (xs : List Var) → vars_before xs [] ≡ vars_tree xs
vars_whole [] = refl
vars_whole (x ∷ xs) = ap (λ ys. var_tree x ∷ ys) (vars_whole xs)

pub variable_begins : (o : Option Token) → begins_next lam variable o ≡ fits_at m.Name o
variable_begins None = refl
variable_begins (Some w) = refl

pub fields_begin : (o : Option Token) → begins_next lam fields o ≡ fits_at m.Name o
fields_begin None = refl
fields_begin (Some w) = refl
