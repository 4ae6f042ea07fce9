-- The laws of whole schedules.
use Rattle.std.proofs.Common.{◌≡◌, ℕ, suc, ◌+◌, ◌≤◌, cond, eqb, List, [], ◌∷◌, ◌++◌, length, Ok, sym, refl, ap, ◌∙◌, inl, inr, add-zero, zero-add, arith}
use Rattle.std.proofs.lemmas.Bool.{cases_Bool, le-leb, ne_eqb}
use Rattle.std.proofs.lemmas.List.{append_assoc}
use Rattle.script.specs.Calls.{arguments, blank, call, called, note, over, parse}
use Rattle.script.specs.Cuts.{lines, onto}
use Rattle.script.specs.declared.refusal.Refusal.TheVariants.{Length}
use Rattle.schedule.specs.Desks.{Board}
use Rattle.schedule.specs.Laws.{IsQuiet, Numbered, Prefix, QuietLines, Undisturbed}
use Rattle.schedule.specs.Listing.{reply_bytes, whole_refused}
use Rattle.schedule.specs.Meaning.{first_board, listed, listing}
use Rattle.schedule.specs.Progress.{Progress, bytes_of, untold_bytes}
use Rattle.schedule.specs.Replies.{Heard, board_after, nothing, noting, replied, replies}

short_listing : (input : List ℕ) → length input ≤ 65536 → listing input ≡ listed 0 first_board (lines input)
short_listing input few = ap (λ b. cond b (listed 0 first_board (lines input)) (whole_refused Length)) (le-leb (length input) 65536 few)

pub is_numbered : Numbered
is_numbered input few = short_listing input few

-- a cut at a line end cuts the lines

some_line : (cut : List ℕ) → (l : List ℕ) × (ls : List (List ℕ)) × (lines (cut ++ 10 ∷ []) ≡ l ∷ ls)
some_line [] = ([], [], refl)
some_line (x ∷ cut) =
    let (l, ls, is) = some_line cut in
    elim (cases_Bool (eqb x 10)) [
      | inl end ↦ ([], lines (cut ++ 10 ∷ []), ap (λ b. cond b ([] ∷ lines (cut ++ 10 ∷ [])) (onto x (lines (cut ++ 10 ∷ [])))) end)
      | inr on ↦ (x ∷ l, ls, ap (λ b. cond b ([] ∷ lines (cut ++ 10 ∷ [])) (onto x (lines (cut ++ 10 ∷ [])))) on ∙ ap (onto x) is)
    ]

cut_lines : (cut more : List ℕ) → lines (cut ++ 10 ∷ more) ≡ lines (cut ++ 10 ∷ []) ++ lines more
cut_lines [] more = refl
cut_lines (x ∷ cut) more =
    let (l, ls, is) = some_line cut in
    let a = lines (cut ++ 10 ∷ []) in
    let c = lines (cut ++ 10 ∷ more) in
    let later : c ≡ a ++ lines more = cut_lines cut more in
    elim (cases_Bool (eqb x 10)) [
      | inl end ↦ ap (λ b. cond b ([] ∷ c) (onto x c)) end ∙ ap (λ z. [] ∷ z) later ∙ ap (λ z. z ++ lines more) (sym (ap (λ b. cond b ([] ∷ a) (onto x a)) end))
      | inr on ↦
          ap (λ b. cond b ([] ∷ c) (onto x c)) on ∙ ap (onto x) (later ∙ ap (λ z. z ++ lines more) is) ∙ ap (λ z. z ++ lines more) (sym (ap (onto x) is)) ∙ ap (λ z. z ++ lines more) (sym (ap (λ b. cond b ([] ∷ a) (onto x a)) on))
    ]

-- lines done in two parts

listed_parts : (n : ℕ) (b : Board) (ls ms : List (List ℕ)) → listed n b (ls ++ ms) ≡ listed n b ls ++ listed (n + length ls) (board_after b ls) ms
listed_parts n b [] ms = ap (λ k. listed k b ms) (sym (add-zero n))
listed_parts n b (l ∷ ls) ms =
    let own = reply_bytes (n + 1) (replied (parse l) b).0 in
    let c = (replied (parse l) b).1 in
    ap (λ z. own ++ z) (listed_parts (n + 1) c ls ms) ∙ sym (append_assoc own (listed (n + 1) c ls) _) ∙ ap (λ k. own ++ listed (n + 1) c ls ++ listed k (board_after c ls) ms) (one_on n (length ls))
  where
    one_on : (n k : ℕ) → n + 1 + k ≡ n + suc k
    one_on n k = omega arith

-- the bytes of lines that are done next, and of others behind them
pub bytes_parts : (p : Progress) (ls ms : List (List ℕ)) → bytes_of ls p ++ listed (p.number + length ls) (board_after p.board ls) ms ≡ bytes_of (ls ++ ms) p
bytes_parts p ls ms = append_assoc (untold_bytes p.untold) (listed p.number p.board ls) _ ∙ ap (λ z. untold_bytes p.untold ++ z) (sym (listed_parts p.number p.board ls ms))

pub after_parts : (b : Board) (ls ms : List (List ℕ)) → board_after b (ls ++ ms) ≡ board_after (board_after b ls) ms
after_parts b [] ms = refl
after_parts b (l ∷ ls) ms = after_parts (replied (parse l) b).1 ls ms

length_more : (xs ys : List ℕ) → length (xs ++ 10 ∷ []) ≤ length (xs ++ 10 ∷ ys)
length_more [] ys = omega arith
length_more (x ∷ xs) ys = omega (arith, length_more xs ys)

pub is_prefix : Prefix
is_prefix cut more few =
    let first = lines (cut ++ 10 ∷ []) in
    let rest = listed (length first) (board_after first_board first) (lines more) in (
      rest,
      short_listing (cut ++ 10 ∷ more) few ∙ ap (listed 0 first_board) (cut_lines cut more) ∙ listed_parts 0 first_board first (lines more) ∙ ap (λ k. listed 0 first_board first ++ listed k (board_after first_board first) (lines more)) (zero-add (length first))
          ∙ ap (λ z. z ++ rest) (sym (short_listing (cut ++ 10 ∷ []) (omega (arith, length_more cut more)))),
    )

note_read : (text : List ℕ) → parse (35 ∷ text) ≡ Ok (note (35 ∷ text))
note_read text =
    let others = cond (eqb 35 35) (Ok (note (35 ∷ text))) (over call (called 35 (arguments (35 ∷ text)))) in
    ap (λ b. cond b (Ok blank) others) (ne_eqb (length (35 ∷ text)) 0 (λ e. omega arith))

pub are_quiet : QuietLines
are_quiet = record { empty = (nothing, λ b. refl); noted = λ text. (noting (35 ∷ text), λ b. ap (λ s. replied s b) (note_read text)) }

undisturbed_at : (b : Board) (before after : List (List ℕ)) (l : List ℕ) (r : Heard) → IsQuiet l r →
    (first later : List Heard) × (replies b (before ++ after) ≡ first ++ later) × (replies b (before ++ l ∷ after) ≡ first ++ r ∷ later) × (length first ≡ length before)
undisturbed_at b [] after l r quiet = ([], replies b after, refl, ap (λ (z : Heard × Board). z.0 ∷ replies z.1 after) (quiet b), refl)
undisturbed_at b (x ∷ before) after l r quiet =
    let (first, later, without, with, count) = undisturbed_at (replied (parse x) b).1 before after l r quiet in
    let own = (replied (parse x) b).0 in
    (own ∷ first, later, ap (λ z. own ∷ z) without, ap (λ z. own ∷ z) with, ap suc count)

pub are_undisturbed : Undisturbed
are_undisturbed before after l r quiet = undisturbed_at first_board before after l r quiet
