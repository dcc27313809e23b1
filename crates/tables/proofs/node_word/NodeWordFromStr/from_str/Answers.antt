-- Where `from_str` refuses a word, it is that of no node, and the error says why. The check leaves these goals open.
use Rattle.std.proofs.Common.{rules}
use Rattle.tables.specs.Words.{Explains}
use Rattle.tables.specs.declared.node_word.NodeWordError.TheVariants.{NoChildBitmap, NoDataIndex, NoChildrenIndex}
use Rattle.tables.proofs.NodeWords.{NoNode, first_wrong, second_missing, second_wrong, third_missing, third_wrong, fourth_missing, fourth_wrong, fifth_found}
use Rattle.tables.proofs.node_word.NodeWordFromStr.from_str.Goals as goal

pub returns-in_err-data_bitmap : goal.returns-in_err-data_bitmap
returns-in_err-data_bitmap c =
    let none : NoNode c.args.word.now = first_wrong c.args.word.now c.in_err-data_bitmap.ensures.complete in
    search rules

pub returns-in_err-ok_or : goal.returns-in_err-ok_or
returns-in_err-ok_or c =
    let known = second_missing c.args.word.now c.in_ok-data_bitmap.ensures.sound c.in_ok-data_bitmap.ensures.complete c.in_err-ok_or.ensures.ok_part in
    let none : NoNode c.args.word.now = known.0 in
    let why : Explains c.args.word.now NoChildBitmap = known.1 in
    search rules

pub returns-in_err-child_bitmap : goal.returns-in_err-child_bitmap
returns-in_err-child_bitmap c =
    let none : NoNode c.args.word.now = second_wrong c.args.word.now c.in_ok-data_bitmap.ensures.complete c.in_ok-ok_or.ensures.ok_part c.in_err-child_bitmap.ensures.complete in
    search rules

pub returns-in_err-ok_or-2 : goal.returns-in_err-ok_or-2
returns-in_err-ok_or-2 c =
    let known = third_missing c.args.word.now c.in_ok-data_bitmap.ensures.sound c.in_ok-data_bitmap.ensures.complete c.in_ok-ok_or.ensures.ok_part c.in_ok-child_bitmap.ensures.sound c.in_ok-child_bitmap.ensures.complete c.in_err-ok_or-2.ensures.ok_part in
    let none : NoNode c.args.word.now = known.0 in
    let why : Explains c.args.word.now NoDataIndex = known.1 in
    search rules

pub returns-in_err-data_idx : goal.returns-in_err-data_idx
returns-in_err-data_idx c =
    let none : NoNode c.args.word.now = third_wrong c.args.word.now c.in_ok-data_bitmap.ensures.complete c.in_ok-ok_or.ensures.ok_part c.in_ok-child_bitmap.ensures.complete c.in_ok-ok_or-2.ensures.ok_part c.in_err-data_idx.ensures.complete in
    search rules

pub returns-in_err-ok_or-3 : goal.returns-in_err-ok_or-3
returns-in_err-ok_or-3 c =
    let known = fourth_missing c.args.word.now c.in_ok-data_bitmap.ensures.sound c.in_ok-data_bitmap.ensures.complete c.in_ok-ok_or.ensures.ok_part c.in_ok-child_bitmap.ensures.sound c.in_ok-child_bitmap.ensures.complete c.in_ok-ok_or-2.ensures.ok_part c.in_ok-data_idx.ensures.sound c.in_ok-data_idx.ensures.complete c.in_err-ok_or-3.ensures.ok_part in
    let none : NoNode c.args.word.now = known.0 in
    let why : Explains c.args.word.now NoChildrenIndex = known.1 in
    search rules

pub returns-in_err-children_idx : goal.returns-in_err-children_idx
returns-in_err-children_idx c =
    let none : NoNode c.args.word.now = fourth_wrong c.args.word.now c.in_ok-data_bitmap.ensures.complete c.in_ok-ok_or.ensures.ok_part c.in_ok-child_bitmap.ensures.complete c.in_ok-ok_or-2.ensures.ok_part c.in_ok-data_idx.ensures.complete c.in_ok-ok_or-3.ensures.ok_part c.in_err-children_idx.ensures.complete in
    search rules

pub returns-in-Some : goal.returns-in-Some
returns-in-Some c = fifth_found c.args.word.now c.in_ok-data_bitmap.ensures.sound c.in_ok-data_bitmap.ensures.complete c.in_ok-ok_or.ensures.ok_part c.in_ok-child_bitmap.ensures.sound c.in_ok-child_bitmap.ensures.complete c.in_ok-ok_or-2.ensures.ok_part c.in_ok-data_idx.ensures.sound c.in_ok-data_idx.ensures.complete c.in_ok-ok_or-3.ensures.ok_part c.in_ok-children_idx.ensures.sound c.in_ok-children_idx.ensures.complete c.in-Some.is
