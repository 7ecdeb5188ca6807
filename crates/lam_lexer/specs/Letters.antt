-- The reserved words by their first letters.
use Rattle.std.specs.Prelude.{ℕ, ◌==◌, if◌then◌else◌, List, Option, Some, None, codes, bytes_eq}
use Rattle.lam_lexer.specs.declared.token.TokenKind.{TokenKind}
use Rattle.lam_lexer.specs.declared.token.TokenKind.TheVariants as Kind

abbrev pub of_b_c : List ℕ → Option TokenKind
of_b_c name =
    if bytes_eq name (codes "bool") then Some Kind.Bool else
    (if bytes_eq name (codes "bytes") then Some Kind.Bytes else
    (if bytes_eq name (codes "class") then Some Kind.Class else
    (if bytes_eq name (codes "catch") then Some Kind.Catch else
    (if bytes_eq name (codes "caps") then Some Kind.Caps else None))))

abbrev pub of_d_e_i_p : List ℕ → Option TokenKind
of_d_e_i_p name =
    if bytes_eq name (codes "dir") then Some Kind.Dir else
    (if bytes_eq name (codes "else") then Some Kind.Else else
    (if bytes_eq name (codes "if") then Some Kind.If else
    (if bytes_eq name (codes "int") then Some Kind.Int else
    (if bytes_eq name (codes "pipe") then Some Kind.Pipe else None))))

abbrev pub of_f_n : List ℕ → Option TokenKind
of_f_n name =
    if bytes_eq name (codes "fn") then Some Kind.Fn else
    (if bytes_eq name (codes "false") then Some Kind.False else
    (if bytes_eq name (codes "file") then Some Kind.File else
    (if bytes_eq name (codes "new") then Some Kind.New else
    (if bytes_eq name (codes "null") then Some Kind.Null else None))))

abbrev pub of_l_r_w : List ℕ → Option TokenKind
of_l_r_w name =
    if bytes_eq name (codes "let") then Some Kind.Let else
    (if bytes_eq name (codes "label") then Some Kind.Label else
    (if bytes_eq name (codes "return") then Some Kind.Return else
    (if bytes_eq name (codes "region") then Some Kind.Region else
    (if bytes_eq name (codes "while") then Some Kind.While else None))))

abbrev pub of_s_t : List ℕ → Option TokenKind
of_s_t name =
    if bytes_eq name (codes "sync") then Some Kind.Sync else
    (if bytes_eq name (codes "spawn") then Some Kind.Spawn else
    (if bytes_eq name (codes "throw") then Some Kind.Throw else
    (if bytes_eq name (codes "true") then Some Kind.True else
    (if bytes_eq name (codes "tag") then Some Kind.Tag else
    (if bytes_eq name (codes "thread") then Some Kind.Thread else None)))))

-- of a text that begins so
abbrev pub by_letter : ℕ → List ℕ → Option TokenKind
by_letter first name =
    if first == 98 then of_b_c name else
    (if first == 99 then of_b_c name else
    (if first == 100 then of_d_e_i_p name else
    (if first == 101 then of_d_e_i_p name else
    (if first == 105 then of_d_e_i_p name else
    (if first == 112 then of_d_e_i_p name else
    (if first == 102 then of_f_n name else
    (if first == 110 then of_f_n name else
    (if first == 108 then of_l_r_w name else
    (if first == 114 then of_l_r_w name else
    (if first == 119 then of_l_r_w name else
    (if first == 115 then of_s_t name else
    (if first == 116 then of_s_t name else None))))))))))))
