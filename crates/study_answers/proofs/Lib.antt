pub mod OneEnd
