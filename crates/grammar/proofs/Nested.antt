-- Texts of any depth, told by their bytes: n times `{skip;`, then skip, then n times `}`. Up to 1,023 braces such a text is read, and from 1,024 on it is refused with 27 on
-- line 0, whatever the list: 2,049 nodes are too many in the whole text. Assumes nothing.
use Prim.Native.Nat.{ℕ, zero, suc, ◌+◌, ◌<◌}
use mathlib.Core.Path.{◌≡◌, refl, sym, ap, subst}
use mathlib.Core.Bool.{false}
use mathlib.Core.Option.{some}
use mathlib.Core.List.{List, [], ◌∷◌, ◌++◌, map}
use native.Mathlib.Omega.{arith}
use lib.ListN.{length}
use Rattle.rules.specs.Syntax.{Cmd, skip, seq}
use Rattle.rules.specs.Published.{image}
use Rattle.grammar.specs.Classes.{in_word}
use Rattle.grammar.specs.Tokens.{Tok, k_skip, lbrace, rbrace, semi}
use Rattle.grammar.specs.Places.{marked, Spot, spot, Spelled, ends, a_word, a-symbol, begins, paired}
use Rattle.grammar.specs.FieldList.{Entry, word_of, code_of, Listed}
use Rattle.grammar.specs.Grammar.{Writes, a_command, skips, in-sequence}
use Rattle.grammar.specs.Nodes.{size_cmd, table_cmd}
use Rattle.grammar.specs.Names.{noted, names_from, names_in, token_of, tokens_of}
use Rattle.grammar.specs.Reads.{Valued, too-many-nodes, most_bytes, words_for, Reads, Refuses, bad-text}
use Rattle.grammar.proofs.Cases.{opens}

-- ---- the text, its places, tokens and tree

-- in front of s; { is 123, } is 125
unfoldable pub nested : ℕ → List ℕ → List ℕ
nested zero s = 115 ∷ 107 ∷ 105 ∷ 112 ∷ s
nested (suc n) s = 123 ∷ 115 ∷ 107 ∷ 105 ∷ 112 ∷ 59 ∷ nested n (125 ∷ s)

spots : ℕ → List Spot → List Spot
spots zero ps = spot 1 (marked 12) ∷ ps
spots (suc n) ps = spot 1 (marked 19) ∷ spot 1 (marked 12) ∷ spot 1 (marked 21) ∷ spots n (spot 1 (marked 20) ∷ ps)

tokens : ℕ → List Tok → List Tok
tokens zero ts = k_skip ∷ ts
tokens (suc n) ts = lbrace ∷ k_skip ∷ semi ∷ tokens n (rbrace ∷ ts)

unfoldable pub tree : ℕ → Cmd
tree zero = skip 0
tree (suc n) = seq 0 (skip 0) (tree n)

-- ---- its places

unpaired-close : (s : List ℕ) → begins (paired 125) s ≡ false
unfolding opens
unpaired-close [] = refl
unpaired-close (c ∷ s) = refl

unpaired-semi : (s : List ℕ) → begins (paired 59) s ≡ false
unfolding opens
unpaired-semi [] = refl
unpaired-semi (c ∷ s) = refl

nested-spelled : (n : ℕ) (s : List ℕ) {ps : List Spot} → begins in_word s ≡ false → Spelled s 1 ps → Spelled (nested n s) 1 (spots n ps)
unfolding opens nested spots
nested-spelled zero s h d = a_word (107 ∷ 105 ∷ 112 ∷ []) refl refl h d
nested-spelled (suc n) s h d =
    a-symbol refl refl
    (a_word (107 ∷ 105 ∷ 112 ∷ []) refl refl refl
    (a-symbol refl (unpaired-semi (nested n (125 ∷ s))) (nested-spelled n (125 ∷ s) refl (a-symbol refl (unpaired-close s) d))))

no_names : (n : ℕ) (ps : List Spot) → names_from [] ps ≡ [] → names_from [] (spots n ps) ≡ []
unfolding names_from noted spots
no_names zero ps h = h
no_names (suc n) ps h = no_names n (spot 1 (marked 20) ∷ ps) h

have-tokens : (fields ns : List (List ℕ)) (n : ℕ) (ps : List Spot) {ts : List Tok} → tokens_of fields ns ps ≡ some ts → tokens_of fields ns (spots n ps) ≡ some (tokens n ts)
unfolding tokens_of token_of spots tokens
have-tokens fields ns zero ps e = rw e refl
have-tokens fields ns (suc n) ps {ts} e = rw (have-tokens fields ns n (spot 1 (marked 20) ∷ ps) {ts = rbrace ∷ ts} (rw e refl)) refl

valued : (fields : List Entry) (n : ℕ) → Valued fields (spots n []) (tokens n [])
unfolding names_in names_from tokens_of
valued fields n =
    record {
      few-names = rw (no_names n [] refl) (omega arith);
      tokens = have-tokens (map word_of fields) (names_in (spots n [])) n [] refl;
    }

-- ---- its tree

more-tokens : (n : ℕ) (ts us : List Tok) → tokens n ts ++ us ≡ tokens n (ts ++ us)
unfolding tokens
more-tokens zero ts us = refl
more-tokens (suc n) ts us = ap (λ vs. lbrace ∷ k_skip ∷ semi ∷ vs) (more-tokens n (rbrace ∷ ts) us)

writes : (n : ℕ) → Writes (a_command (tree n)) (tokens n [])
unfolding tree tokens
writes zero = skips
writes (suc n) =
    subst (λ ts. Writes (a_command (tree (suc n))) (lbrace ∷ k_skip ∷ semi ∷ ts)) (more-tokens n [] (rbrace ∷ [])) (in-sequence skips (writes n))

tree-size : (n : ℕ) → size_cmd (tree n) ≡ suc (n + n)
unfolding tree size_cmd
tree-size zero = refl
tree-size (suc n) = omega (arith, tree-size n)

spelled-whole : (n : ℕ) → Spelled (nested n []) 1 (spots n [])
unfolding begins
spelled-whole n = nested-spelled n [] refl ends

-- ---- the answers

module _ {list : List ℕ} {fields : List Entry} (listed : Listed list fields) (n : ℕ) where
  pub nested-read : n < 1024 → Reads most_bytes (words_for (length (nested n []))) list (nested n []) (image (map code_of fields) (table_cmd 0 (tree n)) 0)
  unfolding names_in names_from
  nested-read h =
      record {
        lent = (omega arith, omega arith);
        fields = fields;
        listed = listed;
        read =
            record {
              places = spots n [];
              spelled = spelled-whole n;
              tokens = tokens n [];
              valued = valued fields n;
              tree = tree n;
              writes = writes n;
              few-nodes = omega (arith, tree-size n);
              is = ap (λ ns. image (map code_of fields) (table_cmd 0 (tree n)) (length ns)) (sym (no_names n [] refl));
            };
      }

  pub nested-refused : 1023 < n → Refuses most_bytes (words_for (length (nested n []))) list (nested n []) 27 0
  nested-refused h =
      bad-text (omega arith, omega arith) listed
      (too-many-nodes (spelled-whole n) (valued fields n) (record { command = tree n; writes = writes n }) (omega (arith, tree-size n)))
