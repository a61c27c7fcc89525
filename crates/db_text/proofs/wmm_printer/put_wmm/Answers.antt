use Rattle.std.proofs.Common.{◌≡◌, ◌++◌, List, ℕ, [], append_assoc, append-nil}
use Rattle.std.specs.Prelude.{codes}
use Rattle.text_lines.specs.declared.form.Item.TheVariants.{VoC, ViC, BeC, BkC, VoAp, ViAp, BeAp, BkAp}
use Rattle.db_text.specs.Printed.{ended, item_line, wmm_lines, wmm_name}
use Rattle.db_text.proofs.wmm_printer.put_wmm.Goals as goal

nine : (o a b c d e f g h i : List ℕ) → o ++ a ++ b ++ c ++ d ++ e ++ f ++ g ++ h ++ i ≡ o ++ (a ++ (b ++ (c ++ (d ++ (e ++ (f ++ (g ++ (h ++ (i ++ [])))))))))
nine o a b c d e f g h i = simp (append_assoc, append-nil)

pub returns : goal.returns
unfolding wmm_lines
returns c =
    rw (
      c.in_ok-put_item-8.ensures,
      c.in_ok-put_item-7.ensures,
      c.in_ok-put_item-6.ensures,
      c.in_ok-put_item-5.ensures,
      c.in_ok-put_item-4.ensures,
      c.in_ok-put_item-3.ensures,
      c.in_ok-put_item-2.ensures,
      c.in_ok-put_item.ensures,
      c.in_ok-put_wmm_header.ensures,
    ) (nine c.args.out.now (ended (codes "wmmrule " ++ wmm_name c.args.number ++ codes ":")) (ended (item_line VoC c.args.wmm.now.vo_c)) (ended (item_line ViC c.args.wmm.now.vi_c))
    (ended (item_line BeC c.args.wmm.now.be_c)) (ended (item_line BkC c.args.wmm.now.bk_c)) (ended (item_line VoAp c.args.wmm.now.vo_ap)) (ended (item_line ViAp c.args.wmm.now.vi_ap))
    (ended (item_line BeAp c.args.wmm.now.be_ap)) (ended (item_line BkAp c.args.wmm.now.bk_ap)))
