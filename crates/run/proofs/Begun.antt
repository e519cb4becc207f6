-- The calls that the program makes print the text of the bytes: the words are those that the bytes make, the start refuses as the check
-- does, and the run begins on the image. Assumes nothing.
use mathlib.Core.Path.{◌≡◌, refl, sym, ap, ap₂, ◌∙◌, subst}
use mathlib.Core.Bool.{Bool, true, false, cond}
use mathlib.Core.List.{List, ◌++◌}
use Prim.Native.Nat.{ℕ, ◌+◌, ◌≤◌}
use native.Mathlib.Omega.{arith}
use borrow.Author.Tests.{le-leb, eq-eqb, ne_eqb, eqb-true}
use lib.Dec.{leb, eqb}
use lib.ListN.{length, take, drop, length-drop}
use lib.Seq.{take_at, take-append_seam, take-append-add, length-take-le}
use Rattle.verdict.specs.Promise.{Leaves}
use Rattle.verdict.specs.Verdict.{Verdict, verdict, done, Said, said_by}
use Rattle.verdict.proofs.Said.{value_is}
use Rattle.words.specs.declared.Converted.{Converted}
use Rattle.words.specs.Words.{words_count, words_in, odd_byte, converted, room_verdict, to_words, filled}
use Rattle.words.proofs.Filling.{words_length}
use Rattle.words.proofs.Chunks.{chunk_words, chunk_odd}
use Rattle.network.specs.Network.{block_count}
use Rattle.file.specs.declared.checker.OpenedFile.{OpenedFile}
use Rattle.file.specs.File.{table_words, file_in, file_checked, opened_file_value}
use Rattle.std.specs.Prelude.{Some, None}
use Rattle.file.specs.Start.{start_verdict, started, start_table}
use Rattle.file.proofs.Accepted.{accepts_files, accepted_done}
use Rattle.file.proofs.Longer.{place_low}
use Rattle.file.proofs.Files.{network_is}
use Rattle.text.specs.Text.{longest_line, refusal_line}
use Rattle.run.specs.Bench.{file_text, words_text}
use Rattle.run.specs.Calls.{Pages, most_state, Printed, Converts, CallsPrint}
use Rattle.run.specs.Calls.Converts.{last_chunk, one_chunk}
use Rattle.run.specs.Calls.Printed.{refused, ran}
use Rattle.run.proofs.Paging.{pages_are_printed}

-- ---- the words that the bytes make
module _ (bytes words : List ℕ) (enough : words_count bytes ≤ length words) {c : Converted} {left : List ℕ} (h : Leaves (to_words bytes words) (filled bytes words) (said_by done c) left) where
  fits : leb (words_count bytes) (length words) ≡ true
  fits = le-leb (words_count bytes) (length words) enough

  answer_is : c ≡ converted (words_count bytes) (odd_byte bytes)
  unfolding to_words
  answer_is = value_is c (room_verdict bytes words) (converted (words_count bytes) (odd_byte bytes)) h.answers

  pub count_is : c.count ≡ words_count bytes
  count_is = ap (λ (x : Converted). x.count) answer_is

  words_are : take c.count left ≡ words_in bytes
  unfolding filled
  words_are =
      ap₂ take count_is (h.leaves ∙ ap (λ (a : Bool). cond a (words_in bytes ++ drop (words_count bytes) words) words) fits)
      ∙ take_at (words_in bytes) (drop (words_count bytes) words) (words_count bytes) (words_length bytes (words_count bytes) 0)

  odd_is : c.odd ≡ odd_byte bytes
  odd_is = ap (λ (x : Converted). x.odd) answer_is

-- ---- the words that chunks make, one after the other
pub converts_are : {bytes words left : List ℕ} {count : ℕ} {odd : Bool} → Converts bytes words count odd left → (take count left ≡ words_in bytes) × (odd ≡ odd_byte bytes)
converts_are (last_chunk l h) = (words_are _ _ l h, odd_is _ _ l h)
converts_are (one_chunk chunk {rest} {words} {left} {after} {c} {count} {odd} even l h more) =
    let others = converts_are more in (
      ap₂ (λ (n : ℕ) (x : List ℕ). take (n + count) (x ++ after)) (count_is chunk words l h ∙ sym (words_length chunk (words_count chunk) 0)) (words_are chunk words l h)
          ∙ take-append-add (words_in chunk) after count
          ∙ ap (λ (x : List ℕ). words_in chunk ++ x) others.0
          ∙ sym (chunk_words chunk rest even),
      others.1 ∙ sym (chunk_odd chunk rest even),
    )

-- ---- a file that is started on a table with room for any
module _ (ws : List ℕ) (odd : Bool) (table : List ℕ) (room : most_state ≤ length table) where
  -- it is refused as the check refuses it
  as_checked : start_verdict ws odd (length table) ≡ file_checked ws odd
  unfolding start_verdict
  as_checked = go (eqb (file_checked ws odd).number 0) refl
    where
      go : (a : Bool) → eqb (file_checked ws odd).number 0 ≡ a → cond a (cond (leb (table_words (file_in ws)) (length table)) done (verdict 12 0)) (file_checked ws odd) ≡ file_checked ws odd
      go true e =
          let fine : (file_checked ws odd).number ≡ 0 = eqb-true (file_checked ws odd).number 0 e in
          let z = ((accepts_files ws odd).0 fine).file.network.areas in
          ap (λ (a : Bool). cond a done (verdict 12 0)) (le-leb (table_words (file_in ws)) (length table) (omega (arith, z.coils, z.discretes, z.inputs, z.holding))) ∙ sym (accepted_done ws odd fine)
      go false e = refl

  module _ {o : Said OpenedFile} {begun : List ℕ} (h : Leaves (started ws odd (length table)) (start_table ws odd table) o begun) where
    pub verdict_is : o.verdict ≡ file_checked ws odd
    verdict_is = ap (λ (x : Said OpenedFile). x.verdict) h.answers ∙ as_checked

    -- ---- what the program may rely on

    -- the place of a refusal is a word
    pub place_small : o.verdict.place ≤ 65535
    place_small = omega (arith, ap (λ (v : Verdict). v.place) verdict_is, place_low ws odd)

    module _ {f : OpenedFile} (has : o.value ≡ Some f) where
      given : (a : Bool) → cond a (Some (opened_file_value ws)) None ≡ Some f → (a ≡ true) × (f ≡ opened_file_value ws)
      given true e = (refl, cc)
      given false e = absurd (none_some e)
        where
          none_some : None ≡ Some f → ⊥
          none_some e = cc

      both : (eqb (start_verdict ws odd (length table)).number 0 ≡ true) × (f ≡ opened_file_value ws)
      both = given (eqb (start_verdict ws odd (length table)).number 0) (sym (ap (λ (x : Said OpenedFile). x.value) h.answers) ∙ has)

      pub zero_number : (file_checked ws odd).number ≡ 0
      zero_number = sym (ap (λ (v : Verdict). v.number) as_checked) ∙ eqb-true (start_verdict ws odd (length table)).number 0 both.0

      -- the file is accepted, also without an odd byte; its table fits
      pub accepted_even : (file_checked ws false).number ≡ 0
      accepted_even = ap (λ (b : Bool). (file_checked ws b).number) (sym ((accepts_files ws odd).0 zero_number).even) ∙ zero_number

      pub words_are_its : f.words ≡ table_words (file_in ws)
      words_are_its = ap (λ (x : OpenedFile). x.words) both.1

      pub scans_are_its : f.scans ≡ (file_in ws).run
      scans_are_its = ap (λ (x : OpenedFile). x.scans) both.1

      pub count_is_its : f.network.count ≡ block_count (file_in ws).network
      count_is_its = ap (λ (x : OpenedFile). x.network.count) both.1 ∙ ap block_count (sym (network_is ws))

      pub few_blocks : f.network.count ≤ 128
      few_blocks = omega (arith, count_is_its, ((accepts_files ws odd).0 zero_number).file.network.few)

      pub few_scans : f.scans ≤ 1000
      few_scans = omega (arith, scans_are_its, ((accepts_files ws odd).0 zero_number).file.run_high)

      pub state_fits : f.words + f.network.count ≤ length table
      state_fits =
          let z = ((accepts_files ws odd).0 zero_number).file.network.areas in
          omega (arith, words_are_its, few_blocks, room, z.coils, z.discretes, z.inputs, z.holding)

      -- the state that the run begins on: the image, and a word for each block
      pub began : (packs : List ℕ) × (length packs ≡ block_count (file_in ws).network) × (take (f.words + f.network.count) begun ≡ (file_in ws).image ++ packs)
      unfolding start_table
      began =
          let sound = (accepts_files ws odd).0 zero_number in
          let z = sound.file.network.areas in
          let words : ℕ = table_words (file_in ws) in
          let count : ℕ = block_count (file_in ws).network in
          let rest : List ℕ = drop words table in
          let begun_is : begun ≡ (file_in ws).image ++ rest = h.leaves ∙ ap (λ (a : Bool). cond a ((file_in ws).image ++ rest) table) both.0 in (
            take count rest,
            length-take-le count rest (omega (arith, length-drop words table, room, z.coils, z.discretes, z.inputs, z.holding, sound.file.network.few)),
            ap₂ take (ap₂ ◌+◌ (words_are_its ∙ sym sound.file.image) count_is_its) begun_is ∙ take-append-add (file_in ws).image rest count,
          )

    prints : {out : List ℕ} → Printed ws o begun out → out ≡ words_text ws odd
    unfolding words_text
    prints (refused bad text l {n} {after} s) =
        let line : List ℕ = refusal_line o.verdict in
        let e = le-leb (0 + longest_line) (length text) (omega (arith, l)) in
        let z : 0 + length line ≡ length line = omega arith in
        ap₂ take
        (s.answers ∙ ap (λ (a : Bool). cond a (0 + length line) 0) e ∙ z)
        (s.leaves ∙ ap (λ (a : Bool). cond a (line ++ drop (0 + length line) text) text) e)
        ∙ take-append_seam line (drop (0 + length line) text)
        ∙ ap refusal_line verdict_is
        ∙ sym (ap (λ (a : Bool). cond a (file_text (file_in ws)) (refusal_line (file_checked ws odd)))
        (ne_eqb (file_checked ws odd).number 0 (λ q. bad (ap (λ (v : Verdict). v.number) verdict_is ∙ q))))
    prints (ran has {out} p) =
        let zero : (file_checked ws odd).number ≡ 0 = zero_number has in
        let even : odd ≡ false = ((accepts_files ws odd).0 zero).even in
        let begins = began has in
        pages_are_printed ws (ap (λ (b : Bool). (file_checked ws b).number) (sym even) ∙ zero) begins.0 begins.1 out (subst (λ (t : List ℕ). Pages ws t 0 out) begins.2 p)
        ∙ sym (ap (λ (a : Bool). cond a (file_text (file_in ws)) (refusal_line (file_checked ws odd))) (eq-eqb (file_checked ws odd).number 0 zero))

pub calls_print : CallsPrint
calls_print bytes words table count odd left o begun b out p =
    let made = converts_are b.converts in
    prints (take count left) odd table b.enough_table b.starts p ∙ ap₂ words_text made.0 made.1
