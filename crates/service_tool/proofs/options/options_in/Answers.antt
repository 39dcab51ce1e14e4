use Rattle.std.proofs.Common.{◌≡◌, length, true, false}
use Rattle.std.specs.Prelude.{Ok}
use Rattle.service_tool.specs.Options.{is_flag, is_option, opening, options_in, with_flag, with_value}
use Rattle.service_tool.proofs.OptionLemmas.{flag_step, parted, value_step}
use Rattle.service_tool.proofs.options.options_in.Goals as goal

pub loop-left-preserved-then-is_flag : goal.loop-left-preserved-then-is_flag
loop-left-preserved-then-is_flag c =
    let l = c.loop-left in
    let word = c.word-item.result in
    let same = c.as_slice-word.ensures in
    let is = c.is_flag.ensures in
    let holds = c.if-is_flag.true in
    let becomes = c.with_flag-options.ensures in
    let flag : is_flag word ≡ true = cc in
    let taken : c.with_flag-options.result ≡ with_flag l.options word = cc in
    flag_step l.options c.with_flag-options.result l.at (length c.args.words.now) word l.left.now _
    (options_in opening 0 c.args.words.now) (parted l.left.now word c.in-len1-up.len_at_least c.word-item.is) taken flag l.invariant

pub loop-left-preserved : goal.loop-left-preserved
loop-left-preserved c =
    let l = c.loop-left in
    let word = c.word-item.result in
    let value = c.value-item.result in
    let same = c.as_slice-word.ensures in
    let same_value = c.as_slice.ensures in
    let is = c.is_flag.ensures in
    let no_flag = c.if-is_flag.false in
    let is_option_by = c.is_option.ensures in
    let holds = c.if-not-is_option.false in
    let takes = c.with_value.ensures in
    let was = c.in-Ok.is in
    let flag : is_flag word ≡ false = cc in
    let option : is_option word ≡ true = cc in
    let taken : with_value l.options l.at word value ≡ Ok c.in-Ok.more = cc in
    value_step l.options c.in-Ok.more l.at (length c.args.words.now) word value l.left.now _ _
    (options_in opening 0 c.args.words.now) (parted l.left.now word c.in-len1-up.len_at_least c.word-item.is)
    (parted _ value c.in-len1-up-others.len_at_least c.value-item.is) flag option taken l.invariant
