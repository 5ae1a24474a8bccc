-- What is due after a token fits its words, and so does the node that comes out: tags are small and names below 128, since those of the table are and
-- a name's number is. Assumes nothing.
use Prim.Native.Nat.{ℕ, ◌<◌}
use mathlib.Core.Path.{◌≡◌, refl, ◌∙◌}
use mathlib.Core.Bool.{Bool, true, false, cond}
use mathlib.Core.List.{List, [], ◌∷◌, ◌++◌}
use native.Mathlib.Omega.{arith}
use lib.Dec.{eqb, ltb, eqb→eq}
use Rattle.reading.specs.Items.{Item, put}
use Rattle.reading.specs.Table.{Due, command, body, var_name, var_semi, malloc_open, malloc_name, atom_open, middle, shut, otherwise, close, close_node, node, test, test_left, test_minus, operand, negative, name_first, first, first_dot, first_dotted, first_minus, becomes_due, expression, sel, sel_dot, after_minus, sel_minus, sel_minus_dot, proc_name, proc_colon, Act, take, pass, refuse, after, Row, on, row_for, plain, signed, operands, commands, minuses, arguments, firsts, sides, does}
use Rattle.grammar.specs.Grammar.{negated}
use Rattle.dues.specs.Words.{NameFits}
use Rattle.dues.specs.Stack.{DueFits, AllFit}

abbrev pub ItemsFit : List Item → Type 0
ItemsFit [] = Unit {0}
ItemsFit (put t v ∷ is) = (t < 64) × ItemsFit is

abbrev pub ActFits : Act → Type 0
ActFits (take ds is) = AllFit ds × ItemsFit is
ActFits (pass is) = Unit {0}
ActFits refuse = Unit {0}

-- rows that fit, where the token's value fits its kind
abbrev RowsFit : List Row → Type 0
RowsFit [] = Unit {0}
RowsFit (on j f ∷ rs) = ((v : ℕ) → NameFits j v → ActFits (f v)) × RowsFit rs

chosen : (b : Bool) (a c : Act) → (b ≡ true → ActFits a) → ActFits c → ActFits (cond b a c)
chosen true a c p q = p refl
chosen false a c p q = q

fit_row : (k v : ℕ) (rs : List Row) (d : Act) → NameFits k v → RowsFit rs → ActFits d → ActFits (row_for k v rs d)
unfolding row_for
fit_row k v [] d n h e = e
fit_row k v (on j f ∷ rs) d n h e =
    chosen (eqb k j) (f v) (row_for k v rs d)
    (λ t. let q : k ≡ j = eqb→eq k j (rw t tt) in h.0 v (λ i. n (q ∙ i)))
    (fit_row k v rs d n h.1 e)

both-fit : (rs ss : List Row) → RowsFit rs → RowsFit ss → RowsFit (rs ++ ss)
both-fit [] ss h g = g
both-fit (on j f ∷ rs) ss h g = (h.0, both-fit rs ss h.1 g)

after-fit : (t v : ℕ) (a : Act) → t < 64 → ActFits a → ActFits (after t v a)
after-fit t v (take ds is) l h = (h.0, (l, h.1))
after-fit t v (pass is) l h = tt
after-fit t v refuse l h = tt

plain-fit : (v : ℕ) (ds : List Due) (is : List Item) → AllFit ds → ItemsFit is → ActFits (plain v (take ds is))
unfolding plain
plain-fit v ds is h g = chosen (ltb v 2147483648) (take ds is) refuse (λ t. (h, g)) tt

signed_fit : (v : ℕ) (ds : List Due) (is : List Item) → AllFit ds → ItemsFit is → ActFits (signed v (take ds is))
unfolding signed
signed_fit v ds is h g = chosen (ltb v 2147483649) (take ds is) refuse (λ t. (h, g)) tt

-- ---- the shared rows

operands-fit : (ds : List Due) → AllFit ds → RowsFit (operands ds)
unfolding operands
operands-fit ds h = (
  λ v n. (h, (omega arith, tt)),
  (
    λ v n. (h, (omega arith, tt)),
    (
      λ v n. plain-fit v ds (put 2 v ∷ []) h (omega arith, tt),
      (
        λ v n. ((tt, h), tt),
        (
          λ v n. (h, (omega arith, tt)),
          (λ v n. ((tt, (tt, h)), tt), tt),
        ),
      ),
    ),
  ),
)

commands-fit : RowsFit commands
unfolding commands
commands-fit = (
  λ v n. ((n refl, tt), tt),
  (
    λ v n. ((tt, tt), (omega arith, tt)),
    (
      λ v n. plain-fit v (first ∷ []) (put 2 v ∷ []) (tt, tt) (omega arith, tt),
      (
        λ v n. ((tt, tt), (omega arith, tt)),
        (
          λ v n. ((tt, (tt, (tt, tt))), tt),
          (
            λ v n. ((tt, tt), tt),
            (
              λ v n. ((tt, tt), tt),
              (
                λ v n. (tt, (omega arith, tt)),
                (
                  λ v n. ((tt, (((omega arith, omega arith), omega arith), tt)), tt),
                  (
                    λ v n. ((tt, (tt, tt)), tt),
                    (
                      λ v n. ((tt, tt), tt),
                      (λ v n. ((tt, (tt, tt)), tt), tt),
                    ),
                  ),
                ),
              ),
            ),
          ),
        ),
      ),
    ),
  ),
)

minuses-fit : (ds : List Due) → AllFit ds → RowsFit (minuses ds)
unfolding minuses
minuses-fit ds h = (λ v n. (h, tt), (λ v n. (h, tt), tt))

arguments-fit : RowsFit arguments
unfolding arguments
arguments-fit = (λ v n. ((tt, (((omega arith, omega arith), omega arith), tt)), tt), tt)

firsts-fit : RowsFit firsts
unfolding firsts
firsts-fit =
    (λ v n. ((tt, tt), tt), both-fit (minuses (operand ∷ first_minus ∷ [])) arguments (minuses-fit _ (tt, (tt, tt))) arguments-fit)

sides-fit : RowsFit sides
unfolding sides
sides-fit =
    both-fit (minuses (operand ∷ test_minus ∷ [])) _ (minuses-fit _ (tt, (tt, tt))) (
      λ v n. ((tt, (((omega arith, omega arith), omega arith), (tt, tt))), tt),
      (λ v n. ((tt, (((omega arith, omega arith), omega arith), (tt, tt))), tt), tt),
    )

-- ---- the things due

pub does-fit : (d : Due) (k v : ℕ) → DueFits d → NameFits k v → ActFits (does d k v)
unfolding does
does-fit command k v h n = fit_row k v (on 4 _ ∷ commands) refuse n (λ w m. ((tt, (tt, tt)), tt), commands-fit) tt
does-fit body k v h n = fit_row k v commands refuse n commands-fit tt
does-fit var_name k v h n = fit_row k v (on 1 _ ∷ []) refuse n (λ w m. ((m refl, tt), tt), tt) tt
does-fit (var_semi x) k v h n = fit_row k v (on 21 _ ∷ []) refuse n (λ w m. ((tt, (((omega arith, omega arith), h), tt)), tt), tt) tt
does-fit malloc_open k v h n = fit_row k v (on 17 _ ∷ []) refuse n (λ w m. ((tt, tt), tt), tt) tt
does-fit malloc_name k v h n = fit_row k v (on 1 _ ∷ []) refuse n (λ w m. ((((omega arith, omega arith), m refl), tt), tt), tt) tt
does-fit atom_open k v h n = fit_row k v (on 17 _ ∷ []) refuse n (λ w m. ((tt, (((omega arith, omega arith), omega arith), tt)), tt), tt) tt
does-fit middle k v h n = fit_row k v (on 21 _ ∷ on 22 _ ∷ []) refuse n (λ w m. ((tt, ((omega arith, omega arith), tt)), tt), (λ w m. ((tt, ((omega arith, omega arith), tt)), tt), tt)) tt
does-fit (shut t) k v h n = fit_row k v (on 20 _ ∷ []) refuse n (λ w m. (tt, (h.1, tt)), tt) tt
does-fit otherwise k v h n = fit_row k v (on 15 _ ∷ []) refuse n (λ w m. ((tt, (((omega arith, omega arith), omega arith), tt)), tt), tt) tt
does-fit close k v h n = fit_row k v (on 18 _ ∷ []) refuse n (λ w m. (tt, tt), tt) tt
does-fit (close_node t x) k v h n = fit_row k v (on 18 _ ∷ []) refuse n (λ w m. (tt, (h.0.1, tt)), tt) tt
does-fit (node t x) k v h n = tt
does-fit test k v h n = fit_row k v (on 8 _ ∷ on 9 _ ∷ operands (test_left ∷ [])) refuse n (λ w m. ((tt, tt), (omega arith, tt)), (λ w m. ((tt, tt), (omega arith, tt)), operands-fit (test_left ∷ []) (tt, tt))) tt
does-fit test_left k v h n = fit_row k v (on 23 _ ∷ sides) refuse n (λ w m. ((tt, (((omega arith, omega arith), omega arith), (tt, tt))), tt), sides-fit) tt
does-fit test_minus k v h n = fit_row k v (on 23 _ ∷ []) _ n (λ w m. ((tt, (((omega arith, omega arith), omega arith), (tt, tt))), tt), tt) (after-fit 3 0 (row_for k v sides refuse) (omega arith) (fit_row k v sides refuse n sides-fit tt))
does-fit operand k v h n = fit_row k v (operands []) refuse n (operands-fit [] tt) tt
does-fit negative k v h n = fit_row k v (on 3 _ ∷ []) refuse n (λ w m. signed_fit w [] (put 2 (negated w) ∷ []) tt (omega arith, tt), tt) tt
does-fit (name_first x) k v h n = fit_row k v (on 24 _ ∷ []) _ n (λ w m. ((tt, (((omega arith, omega arith), h), tt)), tt), tt) (after-fit 5 x (row_for k v firsts refuse) (omega arith) (fit_row k v firsts refuse n firsts-fit tt))
does-fit first k v h n = fit_row k v firsts refuse n firsts-fit tt
does-fit first_dot k v h n = fit_row k v (on 7 _ ∷ operands (first_dotted ∷ [])) refuse n (λ w m. ((tt, (tt, tt)), tt), operands-fit (first_dotted ∷ []) (tt, tt)) tt
does-fit first_dotted k v h n = fit_row k v (on 24 _ ∷ []) _ n (λ w m. ((tt, (((omega arith, omega arith), omega arith), tt)), tt), tt) (after-fit 6 0 (row_for k v firsts refuse) (omega arith) (fit_row k v firsts refuse n firsts-fit tt))
does-fit first_minus k v h n = fit_row k v (on 23 _ ∷ []) _ n (λ w m. ((tt, (((omega arith, omega arith), omega arith), (tt, tt))), tt), tt) (after-fit 3 0 (row_for k v (minuses (operand ∷ first_minus ∷ []) ++ arguments) refuse) (omega arith) (fit_row k v (minuses (operand ∷ first_minus ∷ []) ++ arguments) refuse n (both-fit (minuses (operand ∷ first_minus ∷ [])) arguments (minuses-fit _ (tt, (tt, tt))) arguments-fit) tt))
does-fit becomes_due k v h n = fit_row k v (on 24 _ ∷ []) refuse n (λ w m. ((tt, (((omega arith, omega arith), omega arith), tt)), tt), tt) tt
does-fit expression k v h n = fit_row k v (on 7 _ ∷ operands (sel ∷ [])) refuse n (λ w m. ((tt, tt), tt), operands-fit (sel ∷ []) (tt, tt)) tt
does-fit sel k v h n = fit_row k v (on 23 _ ∷ minuses (after_minus ∷ [])) (pass []) n (λ w m. ((tt, tt), tt), minuses-fit _ (tt, tt)) tt
does-fit sel_dot k v h n = fit_row k v (on 7 _ ∷ operands (node 6 0 ∷ sel ∷ [])) refuse n (λ w m. ((tt, (((omega arith, omega arith), omega arith), tt)), tt), operands-fit (node 6 0 ∷ sel ∷ []) (((omega arith, omega arith), omega arith), (tt, tt))) tt
does-fit after_minus k v h n = fit_row k v (on 7 _ ∷ operands (sel_minus ∷ [])) refuse n (λ w m. ((tt, (((omega arith, omega arith), omega arith), tt)), tt), operands-fit (sel_minus ∷ []) (tt, tt)) tt
does-fit sel_minus k v h n = fit_row k v (on 23 _ ∷ []) _ n (λ w m. ((tt, tt), tt), tt) (after-fit 3 0 (row_for k v (minuses (after_minus ∷ [])) (pass [])) (omega arith) (fit_row k v (minuses (after_minus ∷ [])) (pass []) n (minuses-fit _ (tt, tt)) tt))
does-fit sel_minus_dot k v h n = fit_row k v (on 7 _ ∷ operands (node 6 0 ∷ sel_minus ∷ [])) refuse n (λ w m. ((tt, (((omega arith, omega arith), omega arith), (((omega arith, omega arith), omega arith), tt))), tt), operands-fit (node 6 0 ∷ sel_minus ∷ []) (((omega arith, omega arith), omega arith), (tt, tt))) tt
does-fit proc_name k v h n = fit_row k v (on 1 _ ∷ []) refuse n (λ w m. ((m refl, tt), tt), tt) tt
does-fit (proc_colon y) k v h n = fit_row k v (on 27 _ ∷ []) refuse n (λ w m. ((tt, (((omega arith, omega arith), h), tt)), tt), tt) tt
